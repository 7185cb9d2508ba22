-- Bytes without fault: the study that they say has none either, and writes them again; where their GH is an old one, with the constants put in. Assumes
-- nothing.
use Prim.Native.Nat.{ℕ, ◌+◌, ◌*◌, ◌^◌, ◌≤◌, ◌<◌}
use native.Mathlib.Omega.{arith}
use mathlib.Core.Path.{◌≡◌, sym, ap, ◌∙◌}
use mathlib.Core.Bool.{Bool, true, false, cond}
use mathlib.Core.List.{List, ◌∷◌, ◌++◌}
use borrow.Author.Tests.{eqb-true, lt-ltb}
use lib.Dec.{T, eqb}
use lib.ListN.{length, get_or, take, drop, length-append, length-drop, take-append-drop}
use lib.Seq.{length-take-le}
use lib.Ieee.{binary64, of_bits}
use Rattle.codec.specs.Lists.{part}
use Rattle.codec.specs.Bytes.{bytes_fit, enc, total, fit_all, floats_bytes, floats_of, floats_fit, all_fine, ids_bytes, ids_of}
use Rattle.codec.proofs.Lists.{part_take, every_drop}
use Rattle.codec.proofs.Row.{enc_nums, nums_fit, fit_at, length_nums, length_enc}
use Rattle.codec.proofs.Elements.{length_elements_of}
use Rattle.codec.proofs.Back.{floats_bytes_lem, floats_fit_lem, ids_bytes_lem, ids_fit_lem}
use Rattle.dispersion.specs.declared.DispersiveMaterial.{DispersiveMaterial}
use Rattle.dispersion.specs.Material.{vacuum_material}
use Rattle.cells.specs.Reading.{block_end}
use Rattle.cells.proofs.Blocks.{joined_same}
use Rattle.cells.proofs.Sweeps.{parts_whole}
use Rattle.cells.proofs.Written.{get_d_row}
use Rattle.grid.specs.declared.Record.{Record}
use Rattle.grid.specs.declared.stores.Lengths.{Lengths}
use Rattle.grid.specs.Canon.{canon}
use Rattle.grid.specs.Fault.{beyond, all_below, fault_of}
use Rattle.grid.specs.Stores.{store_lengths, lengths_of}
use Rattle.grid.proofs.Tests.{and_left, and_right, or_none}
use Rattle.grid.proofs.Judging.{sound, all_at}
use Rattle.heads.specs.Numbers.{gh_widths, gh_length, gh_nums, gh_fine, gh_of, ml_widths, ml_length, ml_fine, ml_of}
use Rattle.heads.specs.Payloads.{material_bytes, head_by, count_of, entry_at, entry_material, materials_of, record_of}
use Rattle.heads.proofs.Whole.{gh_total, ml_total}
use Rattle.block.specs.Inner.Held.{Held}
use Rattle.block.proofs.Again.{material_again, head_again}
use Rattle.block.proofs.Decoded.{record_held as entries_held}
use Rattle.format.specs.Records.{piece, framed, frames, Expected, expected, record_fault, records_fault, payload_from}
use Rattle.format.specs.Save.{mark_gh, eleven, list_bytes, pieces, save_bytes, save_length}
use Rattle.format.specs.Rewind.{is_old, head_size, save_head, bare, head_good, list_good, head_record, list_record, store_records, table, table_by, table_of, bytes_fault, payload_of, read_record, read_stores}
use Rattle.format.specs.InMemory.{StoresHeld}
use Rattle.format.proofs.Walk.{cut_up, Passed, walk_back, walk_passed, length_framed}
use Rattle.format.proofs.Bare.{bare_lengths}
use Rattle.format.proofs.Old.{size_least, long_by, fit_by, enc_new}
use Rattle.format.proofs.Written.{list_back, save_long}

eleven_same : (a b c d e f g h i j k a' b' c' d' e' f' g' h' i' j' k' : List ℕ) →
    a ≡ a' → b ≡ b' → c ≡ c' → d ≡ d' → e ≡ e' → f ≡ f' → g ≡ g' → h ≡ h' → i ≡ i' → j ≡ j' → k ≡ k' →
    eleven a b c d e f g h i j k ≡ eleven a' b' c' d' e' f' g' h' i' j' k'
eleven_same a b c d e f g h i j k a' b' c' d' e' f' g' h' i' j' k' p q r s t u v w x y z = rw (p, q, r, s, t, u, v, w, x, y, z)

-- GH as its study writes it, and the other records as they stand
unfoldable pub rewritten : List ℕ → List ℕ
rewritten b = framed (piece mark_gh (enc gh_widths (save_head b))) ++ drop (6 + head_size b) b

module _ (b : List ℕ) (bytes : T (bytes_fit b)) (ok : bytes_fault b ≡ 0) where
  abbrev g : List ℕ
  g = save_head b

  abbrev es : List Expected
  es = table_of b

  abbrev n : Lengths
  n = store_lengths (bare g)

  abbrev none : Expected
  none = expected 0 0 (λ _. true)

  abbrev r : Record
  r = read_record b

  abbrev count : ℕ
  count = count_of g

  passed : (i : ℕ) → i < 11 → Passed (get_or es i none) (payload_of b i)
  unfolding bytes_fault table_by table
  passed i l = walk_passed es b i none bytes ok l

  -- ---- GH
  head_passed : Passed (expected 0 (head_size b) (λ p. head_good (head_by (is_old b) p))) (drop 6 b)
  unfolding table_by table payload_from
  head_passed = let q = passed 0 (omega arith) in record { room = q.room; good = q.good; bytes = q.bytes }

  head_fine : gh_fine g ≡ true
  unfolding head_good
  head_fine = and_left (gh_fine g) (eqb (fault_of (bare g)) 0) head_passed.good

  head_fit : T (fit_all gh_widths g)
  head_fit = fit_by (is_old b) (drop 6 b) head_passed.room head_passed.bytes

  pub head_nums : gh_nums (read_record b) ≡ save_head b
  unfolding read_record
  head_nums = head_again g (materials_of count (payload_of b 1)) (long_by (is_old b) (drop 6 b)) head_fit head_fine

  -- ---- ML
  abbrev p : List ℕ
  p = payload_of b 1

  list_passed : Passed (expected 0 (ml_length * count) (list_good g)) p
  unfolding table_by table
  list_passed = let q = passed 1 (omega arith) in record { room = q.room; good = q.good; bytes = q.bytes }

  abbrev each : Bool
  each = all_below (λ i. ml_fine (entry_at p i)) count

  -- the record that is read has no fault
  pub read_none : fault_of (read_record b) ≡ 0
  unfolding list_good read_record
  read_none = eqb-true (fault_of r) 0 (and_right each (eqb (fault_of r) 0) list_passed.good)

  entry_fine_lem : (i : ℕ) → i < count → ml_fine (entry_at p i) ≡ true
  unfolding list_good
  entry_fine_lem i l = all_at (λ k. ml_fine (entry_at p k)) count i (and_left each (eqb (fault_of (record_of g p)) 0) list_passed.good) l

  few : count ≤ 16
  unfolding read_record gh_of
  few = (sound r read_none).materials

  material_is : (i : ℕ) → i < count → get_or (materials_of count p) i beyond ≡ ml_of (entry_at p i)
  unfolding materials_of
  material_is i l =
      get_d_row 16 (entry_material count p) i beyond (omega (arith, l, few))
      ∙ ap (λ (t : Bool). cond t (ml_of (entry_at p i)) vacuum_material) (lt-ltb i count l)

  abbrev whole : List ℕ
  whole = take (count * ml_length) p

  entry_bytes_lem : (i : ℕ) → i < count → material_bytes (get_or (materials_of count p) i beyond) ≡ part whole (i * ml_length) ml_length
  unfolding part
  entry_bytes_lem i l =
      let rest : List ℕ = drop (ml_length * i) p in
      let end : i * ml_length + ml_length ≤ count * ml_length = block_end i count ml_length l in
      let room : total ml_widths ≤ length rest = omega (arith, ml_total, length-drop (ml_length * i) p, list_passed.room, end) in
      let fits : T (bytes_fit rest) = every_drop _ (ml_length * i) p list_passed.bytes in
      let place : ml_length * i ≡ i * ml_length = omega arith in
      ap (λ (m : DispersiveMaterial). material_bytes m) (material_is i l)
      ∙ ap (enc ml_widths) (material_again (entry_at p i) (length_nums ml_widths rest) (nums_fit ml_widths rest room fits) (entry_fine_lem i l))
      ∙ enc_nums ml_widths rest room fits
      ∙ ap (λ (k : ℕ). take k rest) ml_total
      ∙ ap (λ (k : ℕ). take ml_length (drop k p)) place
      ∙ sym (part_take (count * ml_length) p (i * ml_length) ml_length end)

  list_bytes_lem : list_bytes r ≡ take (ml_length * count) p
  unfolding list_bytes read_record gh_of
  list_bytes_lem =
      let place : count * ml_length ≡ ml_length * count = omega arith in
      joined_same count _ (λ i. part whole (i * ml_length) ml_length) entry_bytes_lem
      ∙ parts_whole count ml_length whole (length-take-le (count * ml_length) p (omega (arith, list_passed.room, place)))
      ∙ ap (λ (k : ℕ). take k p) place

  -- ---- the stores
  again : (m k : ℕ) (l : List ℕ) → Passed (expected m (8 * k) (all_fine k)) l → floats_bytes (floats_of k l) ≡ take (8 * k) l
  again m k l q = floats_bytes_lem k l q.room q.bytes q.good

  ids_again : (m k : ℕ) (l : List ℕ) → Passed (expected m (4 * k) (λ _. true)) l → ids_bytes (ids_of k l) ≡ take (4 * k) l
  ids_again m k l q = ids_bytes_lem k l q.room q.bytes

  abbrev later : List Expected
  later = list_record g ∷ store_records n

  -- the bytes cut up are the records of the study that they say, but for GH
  pub as_read : pieces (read_record b) (read_stores b) ≡ piece mark_gh (enc gh_widths g) ∷ cut_up later (drop (6 + head_size b) b)
  unfolding pieces read_stores cut_up table_by table payload_from
  as_read =
      eleven_same _ _ _ _ _ _ _ _ _ _ _ _ _ _ _ _ _ _ _ _ _ _ (ap (enc gh_widths) head_nums) list_bytes_lem
      (ids_again _ n.ids _ (passed 2 (omega arith)))
      (again _ n.media _ (passed 3 (omega arith)))
      (again _ n.electric _ (passed 4 (omega arith)))
      (again _ n.magnetic _ (passed 5 (omega arith)))
      (again _ n.psi_e _ (passed 6 (omega arith)))
      (again _ n.psi_h _ (passed 7 (omega arith)))
      (again _ n.tables _ (passed 8 (omega arith)))
      (again _ n.poles _ (passed 9 (omega arith)))
      (again _ n.aux _ (passed 10 (omega arith)))

  pub bytes_rewritten : save_bytes (read_record b) (read_stores b) ≡ rewritten b
  unfolding save_bytes frames rewritten bytes_fault table_by table records_fault
  bytes_rewritten =
      let f = (or_none (record_fault (head_record (is_old b)) b) _ ok).1 in
      ap frames as_read
      ∙ ap (λ (x : List ℕ). framed (piece mark_gh (enc gh_widths g)) ++ x) (walk_back later (drop (6 + head_size b) b) (every_drop _ (6 + head_size b) b bytes) f)

  -- and GH too, unless it is an old one
  pub bytes_again : is_old b ≡ false → save_bytes (read_record b) (read_stores b) ≡ b
  unfolding save_bytes bytes_fault cut_up table_by table
  bytes_again new =
      ap frames as_read
      ∙ ap (λ (x : List ℕ). frames (piece mark_gh x ∷ cut_up later (drop (6 + head_size b) b))) (enc_new (is_old b) (drop 6 b) new head_passed.room head_passed.bytes)
      ∙ walk_back es b bytes ok

  -- ---- what is read is a study: stores of its lengths, and all that code holds
  pub read_lengths : lengths_of (read_stores b) ≡ store_lengths (read_record b)
  unfolding read_stores read_record
  read_lengths =
      long n.electric n.magnetic n.media n.psi_e n.psi_h n.tables n.poles n.aux n.ids
      ∙ bare_lengths g (materials_of count p)
    where
      floats_long : (k : ℕ) (l : List ℕ) → length (floats_of k l) ≡ k
      floats_long = length_elements_of 8 (of_bits binary64)

      long : (e h m pe ph t q a i : ℕ) →
          lengths_of (record {
            electric = floats_of e (payload_of b 4);
            magnetic = floats_of h (payload_of b 5);
            media = floats_of m (payload_of b 3);
            psi_e = floats_of pe (payload_of b 6);
            psi_h = floats_of ph (payload_of b 7);
            tables = floats_of t (payload_of b 8);
            poles = floats_of q (payload_of b 9);
            aux = floats_of a (payload_of b 10);
            ids = ids_of i (payload_of b 2);
          }) ≡ record { electric = e; magnetic = h; media = m; psi_e = pe; psi_h = ph; tables = t; poles = q; aux = a; ids = i }
      long e h m pe ph t q a i =
          rw (
            floats_long e (payload_of b 4),
            floats_long h (payload_of b 5),
            floats_long m (payload_of b 3),
            floats_long pe (payload_of b 6),
            floats_long ph (payload_of b 7),
            floats_long t (payload_of b 8),
            floats_long q (payload_of b 9),
            floats_long a (payload_of b 10),
            length_elements_of 4 (λ k. k) i (payload_of b 2),
          )

  -- how long they are: as a save of that study, but for GH
  pub read_long : length b + gh_length ≡ save_length (read_record b) + head_size b
  unfolding rewritten
  read_long =
      let h : List ℕ = enc gh_widths g in
      let wide : length h ≡ gh_length = length_enc gh_widths g (sym (long_by (is_old b) (drop 6 b))) ∙ gh_total in
      let whole : length (framed (piece mark_gh h) ++ drop (6 + head_size b) b) ≡ save_length r = ap length (sym bytes_rewritten) ∙ save_long r (read_stores b) read_lengths in
      omega (arith, wide, whole, length-append (framed (piece mark_gh h)) (drop (6 + head_size b) b), length_framed (piece mark_gh h), length-drop (6 + head_size b) b, head_passed.room, length-drop 6 b, size_least (is_old b))

  held : (m k : ℕ) (l : List ℕ) → Passed (expected m (8 * k) (all_fine k)) l → T (floats_fit (floats_of k l))
  held m k l q = floats_fit_lem k l q.room q.bytes

  pub stores_held : StoresHeld (read_stores b)
  unfolding read_stores table_by table
  stores_held = record {
    electric = held _ n.electric _ (passed 4 (omega arith));
    magnetic = held _ n.magnetic _ (passed 5 (omega arith));
    media = held _ n.media _ (passed 3 (omega arith));
    psi_e = held _ n.psi_e _ (passed 6 (omega arith));
    psi_h = held _ n.psi_h _ (passed 7 (omega arith));
    tables = held _ n.tables _ (passed 8 (omega arith));
    poles = held _ n.poles _ (passed 9 (omega arith));
    aux = held _ n.aux _ (passed 10 (omega arith));
    ids = let q = passed 2 (omega arith) in ids_fit_lem n.ids (payload_of b 2) q.room q.bytes;
  }

  steps_small : get_or g 25 0 ≤ 4294967295
  steps_small =
      let small : get_or g 25 0 < 256 ^ 4 = fit_at gh_widths g 25 head_fit (omega arith) in
      omega arith

  pub record_held : Held (read_record b)
  unfolding read_record
  record_held = entries_held g p steps_small

  -- and nothing in its record means nothing
  pub read_canon : canon (read_record b) ≡ read_record b
  unfolding read_record
  read_canon =
      let rest : List ℕ = drop (ml_length * count) p in
      sym (list_back r read_none record_held rest)
      ∙ ap (λ (x : List ℕ). record_of x (list_bytes r ++ rest)) head_nums
      ∙ ap (λ (x : List ℕ). record_of g (x ++ rest)) list_bytes_lem
      ∙ ap (record_of g) (take-append-drop (ml_length * count) p)
