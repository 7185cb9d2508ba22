-- Bytes without fault, whichever length their GH has: cut short anywhere they are 13, and with more behind them 16; the latter of a study's save too. Assumes
-- nothing.
use Prim.Native.Nat.{ℕ, suc, ◌+◌, ◌-◌, ◌^◌, ◌≤◌, ◌<◌}
use native.Mathlib.Omega.{arith}
use mathlib.Core.Path.{◌≡◌, refl, sym, ap, ◌∙◌, subst}
use mathlib.Core.Bool.{Bool, true, false}
use mathlib.Core.List.{List, [], ◌∷◌, ◌++◌, append_assoc, append-nil}
use borrow.Author.Tests.{le-leb, lt-ltb, ltb-true, ltb-false, ne_eqb}
use lib.Dec.{T, ltb}
use lib.ListN.{length, take, drop, length-drop, length-append}
use lib.Seq.{length-take-le, take_at}
use Rattle.codec.specs.Bytes.{bytes_fit, total, nums}
use Rattle.codec.specs.Frame.{frame_fault, short}
use Rattle.codec.proofs.Lists.{part_take, every_drop}
use Rattle.codec.proofs.Row.{enc_nums, nums_enc, nums_fit}
use Rattle.codec.proofs.Framed.{frame_cut, frame_room}
use Rattle.grid.specs.declared.Record.{Record}
use Rattle.grid.specs.declared.stores.Lengths.{Lengths}
use Rattle.grid.specs.Fault.{first}
use Rattle.grid.specs.Stores.{Stores, store_lengths, same_lengths, lent_fault}
use Rattle.grid.proofs.Tests.{or_none, first_none}
use Rattle.heads.specs.Numbers.{old_widths, old_length, gh_widths, gh_length, gh_nums}
use Rattle.heads.specs.Payloads.{head_by}
use Rattle.heads.proofs.Whole.{old_total, gh_total}
use Rattle.format.specs.Records.{Piece, piece, framed, frames, trailing, Expected, record_fault, records_fault}
use Rattle.format.specs.Save.{mark_gh, pieces, save_bytes}
use Rattle.format.specs.Rewind.{is_old, size_by, head_size, save_head, bare, head_good, head_record, list_record, store_records, table, table_by, table_of, bytes_fault, read_record, read_stores, rewind_fault}
use Rattle.format.specs.Inner.Savable.{Savable}
use Rattle.format.proofs.Walk.{Meets, AllMeet, meet_cons, met_payload, met_past, walk_met, walk_cut, walk_back, cut_up}
use Rattle.format.proofs.Written.{table_met, own_table}
use Rattle.format.proofs.Back.{saved_fault}
use Rattle.format.proofs.Again.{read_none, read_lengths, record_held, stores_held, head_nums, as_read}
use Rattle.format.proofs.Same.{save_fit}

-- ---- a front of six bytes or more has the same length field
front_old : (l : List ℕ) (n : ℕ) → 6 ≤ n → n ≤ length l → is_old (take n l) ≡ is_old l
unfolding is_old
front_old l n h e =
    rw (
      length-take-le n l e,
      le-leb 6 n h,
      le-leb 6 (length l) (omega (arith, h, e)),
      part_take n l 2 4 (omega (arith, h)),
    )

-- ---- GH's numbers are read from its own bytes, whatever follows them
own_numbers : (ws : List ℕ) (n : ℕ) (p r : List ℕ) → total ws ≡ n → n ≤ length p → T (bytes_fit p) → nums ws (take n p ++ r) ≡ nums ws p
own_numbers ws n p r e h t =
    let room : total ws ≤ length p = omega (arith, e, h) in
    ap (λ (k : ℕ). nums ws (take k p ++ r)) (sym e)
    ∙ ap (λ (x : List ℕ). nums ws (x ++ r)) (sym (enc_nums ws p room t))
    ∙ nums_enc ws (nums ws p) r (nums_fit ws p room t)

front_by : (old : Bool) (p r : List ℕ) → size_by old ≤ length p → T (bytes_fit p) → head_by old (take (size_by old) p ++ r) ≡ head_by old p
front_by true p r h t = ap (λ (x : List ℕ). x ++ (0 ∷ [])) (own_numbers old_widths old_length p r old_total h t)
front_by false p r h t = own_numbers gh_widths gh_length p r gh_total h t

size_few : (old : Bool) → size_by old < 256 ^ 4
size_few true = omega arith
size_few false = omega arith

module _ (b : List ℕ) (bytes : T (bytes_fit b)) (ok : bytes_fault b ≡ 0) where
  abbrev g : List ℕ
  g = save_head b

  abbrev old : Bool
  old = is_old b

  abbrev later : List Expected
  later = list_record g ∷ store_records (store_lengths (bare g))

  abbrev es : List Expected
  es = table_of b

  -- ---- the records behind GH are those that its study writes
  later_met : AllMeet later (cut_up later (drop (6 + head_size b) b))
  unfolding AllMeet table_by table
  later_met =
      let r = read_record b in
      let s = read_stores b in
      let none = read_none b bytes ok in
      let held = record_held b bytes ok in
      let fit = read_lengths b bytes ok in
      let kept = stores_held b bytes ok in
      let own : AllMeet (table_by false (gh_nums r)) (pieces r s) = subst (λ (t : List Expected). AllMeet t (pieces r s)) (sym (own_table r s none held fit kept)) (table_met r s none held fit kept) in
      let same : AllMeet (table_by false g) (pieces r s) = subst (λ (x : List ℕ). AllMeet (table_by false x) (pieces r s)) (head_nums b bytes ok) own in
      (subst (λ (x : List Piece). AllMeet (table_by false g) x) (as_read b bytes ok) same).1

  -- ---- and GH is as it was judged
  frame_none : frame_fault mark_gh (head_size b) b ≡ 0
  unfolding bytes_fault table_by table records_fault record_fault
  frame_none = (or_none (frame_fault mark_gh (head_size b) b) _ (or_none (record_fault (head_record old) b) _ ok).0).0

  head_good_lem : head_good g ≡ true
  unfolding bytes_fault table_by table records_fault record_fault
  head_good_lem = (first_none (head_good g) 14 0 (or_none (frame_fault mark_gh (head_size b) b) _ (or_none (record_fault (head_record old) b) _ ok).0).1).0

  room : head_size b ≤ length (drop 6 b)
  room = omega (arith, frame_room mark_gh (head_size b) b frame_none, length-drop 6 b)

  abbrev head : Piece
  head = piece mark_gh (take (head_size b) (drop 6 b))

  head_is : (r : List ℕ) → head_by old (head.payload ++ r) ≡ g
  head_is r = front_by old (drop 6 b) r room (every_drop _ 6 b bytes)

  head_met : Meets (head_record old) head
  head_met = record {
    same = refl;
    long = length-take-le (head_size b) (drop 6 b) room;
    low = omega arith;
    few = size_few old;
    good = λ r. ap head_good (head_is r) ∙ head_good_lem;
  }

  met : AllMeet es (cut_up es b)
  unfolding table_by table cut_up
  met = meet_cons (head_record old) head later (cut_up later (drop (6 + head_size b) b)) head_met later_met

  whole : frames (cut_up es b) ≡ b
  unfolding bytes_fault
  whole = walk_back es b bytes ok

  -- bytes that begin with such a GH, the length field and its numbers the same, are judged by the same table
  judged_by_lem : (l r : List ℕ) → is_old l ≡ old → l ≡ framed head ++ r → bytes_fault l ≡ records_fault es l
  unfolding bytes_fault
  judged_by_lem l r e q =
      ap (λ (o : Bool). records_fault (table_by o (head_by o (drop 6 l))) l) e
      ∙ ap (λ (x : List ℕ). records_fault (table_by old (head_by old (drop 6 x))) l) q
      ∙ ap (λ (x : List ℕ). records_fault (table_by old (head_by old x)) l) (met_payload (head_record old) head head_met r)
      ∙ ap (λ (x : List ℕ). records_fault (table_by old x) l) (head_is r)

  abbrev rest : List ℕ
  rest = frames (cut_up later (drop (6 + head_size b) b))

  as_head : b ≡ framed head ++ rest
  unfolding frames cut_up table_by table
  as_head = sym whole

  -- ---- cut short
  module _ (n : ℕ) (m : n < length b) where
    abbrev cut : List ℕ
    cut = take n b

    -- within the six bytes
    cut_first : n < 6 → bytes_fault cut ≡ short
    unfolding bytes_fault table_by table records_fault record_fault frame_fault
    cut_first l =
        let long : length cut ≡ n = length-take-le n b (omega (arith, m)) in
        rw (long, lt-ltb n 6 l)

    -- within GH
    cut_early : 6 ≤ n → n < 6 + head_size b → bytes_fault cut ≡ short
    unfolding bytes_fault table_by table records_fault record_fault
    cut_early h l =
        ap (λ (o : Bool). records_fault (table_by o (head_by o (drop 6 cut))) cut) (front_old b n h (omega (arith, m)))
        ∙ rw (frame_cut mark_gh (head_size b) b frame_none n l)

    -- after it
    cut_late : 6 + head_size b ≤ n → bytes_fault cut ≡ short
    cut_late l =
        let begins : cut ≡ framed head ++ take (n - (6 + head_size b)) rest = ap (take n) as_head ∙ met_past (head_record old) head head_met rest n l in
        judged_by_lem cut _ (front_old b n (omega (arith, l)) (omega (arith, m))) begins
        ∙ ap (λ (x : List ℕ). records_fault es (take n x)) (sym whole)
        ∙ walk_cut es (cut_up es b) n met (subst (λ (x : List ℕ). n < length x) (sym whole) m)

    pub read_cut : bytes_fault (take n b) ≡ short
    read_cut = go (ltb n 6) refl (ltb n (6 + head_size b)) refl
      where
        go : (t : Bool) → ltb n 6 ≡ t → (u : Bool) → ltb n (6 + head_size b) ≡ u → bytes_fault (take n b) ≡ short
        go true e u d = cut_first (ltb-true n 6 e)
        go false e true d = cut_early (ltb-false n 6 e) (ltb-true n (6 + head_size b) d)
        go false e false d = cut_late (ltb-false n (6 + head_size b) d)

  -- ---- with more behind it
  pub read_trailing : (x : ℕ) (more : List ℕ) → bytes_fault (b ++ (x ∷ more)) ≡ trailing
  read_trailing x more =
      let l : List ℕ = b ++ (x ∷ more) in
      let six : 6 ≤ length b = omega (arith, frame_room mark_gh (head_size b) b frame_none) in
      let front : take (length b) l ≡ b = take_at b (x ∷ more) (length b) refl in
      let same : is_old l ≡ old = sym (front_old l (length b) six (omega (arith, length-append b (x ∷ more)))) ∙ ap is_old front in
      let begins : l ≡ framed head ++ (rest ++ (x ∷ more)) = ap (λ (y : List ℕ). y ++ (x ∷ more)) as_head ∙ append_assoc (framed head) rest (x ∷ more) in
      judged_by_lem l (rest ++ (x ∷ more)) same begins
      ∙ ap (λ (y : List ℕ). records_fault es (y ++ (x ∷ more))) (sym whole)
      ∙ walk_met es (cut_up es b) (x ∷ more) met
      ∙ ap (λ (t : Bool). first t trailing 0) (ne_eqb (suc (length more)) 0 (λ e. let z : ⊥ = omega arith in z))

-- ---- a study's save with more behind it, as a rewind meets it, whatever it is lent
pub save_trailing : (r : Record) (s : Stores) → Savable r s → (l : Lengths) (x : ℕ) (more : List ℕ) → rewind_fault (save_bytes r s ++ (x ∷ more)) l ≡ trailing
unfolding rewind_fault
save_trailing r s k l x more =
    let b : List ℕ = save_bytes r s in
    let none : bytes_fault b ≡ 0 = ap bytes_fault (sym (append-nil b)) ∙ saved_fault r s k.ok k.held k.fit k.kept [] in
    ap (λ (n : ℕ). lent_fault n (same_lengths l (store_lengths (read_record (b ++ (x ∷ more)))))) (read_trailing b (save_fit r s) none x more)
