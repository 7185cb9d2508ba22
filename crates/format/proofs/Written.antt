-- A study without fault, written: how long each record is, and that each is as GH makes it expected. Assumes nothing.
use Prim.Native.Nat.{ℕ, ◌+◌, ◌*◌, ◌^◌, ◌≤◌, ◌<◌}
use native.Mathlib.Nat.{add-mul, mul_assoc}
use native.Mathlib.Omega.{arith}
use mathlib.Core.Path.{◌≡◌, refl, sym, ap, ◌∙◌}
use mathlib.Core.Bool.{true, false, ◌&&◌}
use mathlib.Core.List.{List, [], ◌∷◌, ◌++◌, map}
use borrow.Author.Tests.{eq-eqb}
use lib.Dec.{T, eqb}
use lib.ListN.{length, get_or, length-append}
use lib.Ieee.{Float, binary64, to_bits}
use Rattle.codec.specs.Lists.{part}
use Rattle.codec.specs.Bytes.{floats_bytes, floats_fit, ids_bytes}
use Rattle.codec.proofs.Row.{nums_enc, length_enc}
use Rattle.codec.proofs.Elements.{length_bytes_of}
use Rattle.codec.proofs.Back.{floats_fine}
use Rattle.dispersion.specs.declared.DispersiveMaterial.{DispersiveMaterial}
use Rattle.dispersion.specs.Material.{vacuum_material}
use Rattle.cells.specs.Reading.{length_joined, block_end}
use Rattle.cells.proofs.Blocks.{part_left, part_block}
use Rattle.grid.specs.declared.Record.{Record}
use Rattle.grid.specs.declared.stores.Lengths.{Lengths}
use Rattle.grid.specs.Canon.{keep_first, canon_material, canon}
use Rattle.grid.specs.Fault.{beyond, all_below, fault_of}
use Rattle.grid.specs.Inner.Sound.{Sound}
use Rattle.grid.specs.Stores.{Stores, cells, store_lengths, lengths_of}
use Rattle.grid.proofs.Judging.{sound, all_true}
use Rattle.grid.proofs.Canonical.{canon_fault}
use Rattle.heads.specs.Numbers.{gh_widths, gh_length, gh_nums, gh_fine, gh_of, ml_widths, ml_length, ml_nums, ml_fine}
use Rattle.heads.specs.Payloads.{head_bytes, material_bytes, head_of, count_of, entry_at, record_of}
use Rattle.heads.proofs.Whole.{gh_long, ml_long, gh_total, ml_total}
use Rattle.block.specs.Inner.Held.{Held}
use Rattle.block.proofs.Entry.{material_fine}
use Rattle.block.proofs.Head.{head_fit, head_fine, head_back}
use Rattle.block.proofs.Counted.{entry_is, record_back}
use Rattle.format.specs.Records.{Piece, piece, framed, frames}
use Rattle.format.specs.Save.{list_bytes, pieces, save_bytes, save_length}
use Rattle.format.specs.Rewind.{bare, head_good, list_good, floats_record, table, table_by}
use Rattle.format.specs.InMemory.{StoresHeld}
use Rattle.format.proofs.Walk.{Meets, AllMeet, meet_nil, meet_cons, length_framed}
use Rattle.format.proofs.Bare.{bare_none, own_lengths}

-- ---- lengths
unfoldable pub extent : List Piece → ℕ
extent [] = 0
extent (p ∷ ps) = 6 + length p.payload + extent ps

pub frames_long : (ps : List Piece) → length (frames ps) ≡ extent ps
unfolding frames extent
frames_long [] = refl
frames_long (p ∷ ps) = length-append (framed p) (frames ps) ∙ omega (arith, length_framed p, frames_long ps)

pub head_long : (r : Record) → length (head_bytes r) ≡ gh_length
head_long r = length_enc gh_widths (gh_nums r) (sym (gh_long r)) ∙ gh_total

pub material_long : (m : DispersiveMaterial) → length (material_bytes m) ≡ ml_length
material_long m = length_enc ml_widths (ml_nums m) (sym (ml_long m)) ∙ ml_total

pub list_long : (r : Record) → length (list_bytes r) ≡ ml_length * r.material_count
unfolding list_bytes
list_long r = length_joined r.material_count ml_length _ (λ i _. material_long (get_or r.materials i beyond)) ∙ omega arith

pub floats_long : (xs : List Float) → length (floats_bytes xs) ≡ 8 * length xs
floats_long = length_bytes_of 8 (to_bits binary64)

pub ids_long : (ns : List ℕ) → length (ids_bytes ns) ≡ 4 * length ns
ids_long = length_bytes_of 4 (λ n. n)

-- the poles' numbers, opened
pub pole_count_lem : (p n : ℕ) → (6 * p + 3) * n ≡ 6 * (p * n) + 3 * n
pole_count_lem p n = add-mul (6 * p) 3 n ∙ ap (λ (k : ℕ). k + 3 * n) (mul_assoc 6 p n)

module _ (r : Record) (s : Stores) (fit : lengths_of s ≡ store_lengths r) where
  extent_is : extent (pieces r s) ≡ save_length r
  unfolding extent pieces save_length store_lengths
  extent_is =
      let e1 : length s.electric ≡ 3 * cells r = ap (λ (l : Lengths). l.electric) fit in
      let e2 : length s.magnetic ≡ 3 * cells r = ap (λ (l : Lengths). l.magnetic) fit in
      let e3 : length s.media ≡ 3 * cells r = ap (λ (l : Lengths). l.media) fit in
      let e4 : length s.psi_e ≡ 6 * cells r = ap (λ (l : Lengths). l.psi_e) fit in
      let e5 : length s.psi_h ≡ 6 * cells r = ap (λ (l : Lengths). l.psi_h) fit in
      let e6 : length s.tables ≡ 6 * (r.nx + r.ny + r.nz) = ap (λ (l : Lengths). l.tables) fit in
      let e7 : length s.poles ≡ 6 * (r.pole_slots * cells r) + 3 * cells r = ap (λ (l : Lengths). l.poles) fit ∙ pole_count_lem r.pole_slots (cells r) in
      let e8 : length s.aux ≡ 2 * (r.nz + 48) = ap (λ (l : Lengths). l.aux) fit in
      let e9 : length s.ids ≡ cells r = ap (λ (l : Lengths). l.ids) fit in
      omega (
        arith,
        head_long r,
        list_long r,
        floats_long s.electric,
        floats_long s.magnetic,
        floats_long s.media,
        floats_long s.psi_e,
        floats_long s.psi_h,
        floats_long s.tables,
        floats_long s.poles,
        floats_long s.aux,
        ids_long s.ids,
      )

  -- document 01's length, whatever the record's faults
  pub save_long : length (save_bytes r s) ≡ save_length r
  unfolding save_bytes
  save_long = frames_long (pieces r s) ∙ extent_is

-- ---- GH and ML
module _ (r : Record) (ok : fault_of r ≡ 0) (h : Held r) where
  abbrev count : ℕ
  count = r.material_count

  abbrev material : ℕ → DispersiveMaterial
  material i = get_or r.materials i beyond

  abbrev kept : List DispersiveMaterial
  kept = keep_first count vacuum_material (map canon_material r.materials)

  small : count ≤ 16
  small = (sound r ok).materials

  -- the numbers of GH, whatever follows
  pub head_nums : (rest : List ℕ) → head_of (head_bytes r ++ rest) ≡ gh_nums r
  head_nums rest = nums_enc gh_widths (gh_nums r) rest (head_fit r ok h)

  whole_none : fault_of (gh_of (gh_nums r) kept) ≡ 0
  whole_none = ap fault_of (head_back r ok h kept refl) ∙ canon_fault r ∙ ok

  pub head_good_lem : (rest : List ℕ) → head_good (head_of (head_bytes r ++ rest)) ≡ true
  unfolding head_good
  head_good_lem rest =
      ap (λ (g : List ℕ). gh_fine g && eqb (fault_of (bare g)) 0) (head_nums rest)
      ∙ rw (head_fine r ok h, eq-eqb (fault_of (bare (gh_nums r))) 0 (bare_none (gh_nums r) kept whole_none))

  module _ (rest : List ℕ) where
    abbrev p : List ℕ
    p = list_bytes r ++ rest

    entry_part : (i : ℕ) → i < count → part p (ml_length * i) ml_length ≡ material_bytes (material i)
    unfolding list_bytes
    entry_part i l =
        let place : ml_length * i ≡ i * ml_length = omega arith in
        let long : length (list_bytes r) ≡ ml_length * count = list_long r in
        ap (λ (k : ℕ). part p k ml_length) place
        ∙ part_left (list_bytes r) rest (i * ml_length) ml_length (omega (arith, long, block_end i count ml_length l))
        ∙ part_block count i ml_length (λ c. material_bytes (material c)) l (λ c _. material_long (material c))

    pub list_back : record_of (gh_nums r) p ≡ canon r
    list_back = record_back r ok h p entry_part

    list_good_lem : list_good (gh_nums r) p ≡ true
    unfolding list_good gh_nums
    list_good_lem =
        let each : all_below (λ i. ml_fine (entry_at p i)) count ≡ true = all_true (λ i. ml_fine (entry_at p i)) count
        (λ i l. ap ml_fine (entry_is r ok h p entry_part i l) ∙ material_fine (material i) (h.each i (omega (arith, l, small)))) in
        rw (each, eq-eqb (fault_of (record_of (gh_nums r) p)) 0 (ap fault_of list_back ∙ canon_fault r ∙ ok))

  count_is : count_of (gh_nums r) ≡ count
  unfolding gh_nums
  count_is = refl

-- ---- a store
floats_meet : (m : ℕ) (xs : List Float) → m < 256 ^ 2 → T (floats_fit xs) → length xs ≤ 28311552 → Meets (floats_record m (length xs)) (piece m (floats_bytes xs))
floats_meet m xs low t few = record {
  same = refl;
  long = floats_long xs;
  low = low;
  few = omega (arith, few);
  good = λ rest. floats_fine xs rest t;
}

module _ (r : Record) (s : Stores) (ok : fault_of r ≡ 0) (h : Held r) (fit : lengths_of s ≡ store_lengths r) (k : StoresHeld s) where
  sized : Sound r
  sized = sound r ok

  pub table_met : AllMeet (table false (gh_nums r) (lengths_of s)) (pieces r s)
  unfolding table pieces store_lengths
  table_met =
      let e1 : length s.electric ≡ 3 * cells r = ap (λ (l : Lengths). l.electric) fit in
      let e2 : length s.magnetic ≡ 3 * cells r = ap (λ (l : Lengths). l.magnetic) fit in
      let e3 : length s.media ≡ 3 * cells r = ap (λ (l : Lengths). l.media) fit in
      let e4 : length s.psi_e ≡ 6 * cells r = ap (λ (l : Lengths). l.psi_e) fit in
      let e5 : length s.psi_h ≡ 6 * cells r = ap (λ (l : Lengths). l.psi_h) fit in
      let e6 : length s.tables ≡ 6 * (r.nx + r.ny + r.nz) = ap (λ (l : Lengths). l.tables) fit in
      let e7 : length s.poles ≡ (6 * r.pole_slots + 3) * cells r = ap (λ (l : Lengths). l.poles) fit in
      let e8 : length s.aux ≡ 2 * (r.nz + 48) = ap (λ (l : Lengths). l.aux) fit in
      let e9 : length s.ids ≡ cells r = ap (λ (l : Lengths). l.ids) fit in
      meet_cons _ _ _ _ (record { same = refl; long = head_long r; low = omega arith; few = omega arith; good = head_good_lem r ok h })
      (meet_cons _ _ _ _ (record {
        same = refl;
        long = list_long r ∙ ap (λ (n : ℕ). ml_length * n) (sym (count_is r ok h));
        low = omega arith;
        few = omega (arith, count_is r ok h, sized.materials);
        good = list_good_lem r ok h;
      })
      (meet_cons _ _ _ _ (record { same = refl; long = ids_long s.ids; low = omega arith; few = omega (arith, e9, sized.cells); good = λ rest. refl })
      (meet_cons _ _ _ _ (floats_meet _ s.media (omega arith) k.media (omega (arith, e3, sized.cells)))
      (meet_cons _ _ _ _ (floats_meet _ s.electric (omega arith) k.electric (omega (arith, e1, sized.cells)))
      (meet_cons _ _ _ _ (floats_meet _ s.magnetic (omega arith) k.magnetic (omega (arith, e2, sized.cells)))
      (meet_cons _ _ _ _ (floats_meet _ s.psi_e (omega arith) k.psi_e (omega (arith, e4, sized.cells)))
      (meet_cons _ _ _ _ (floats_meet _ s.psi_h (omega arith) k.psi_h (omega (arith, e5, sized.cells)))
      (meet_cons _ _ _ _ (floats_meet _ s.tables (omega arith) k.tables (omega (arith, e6, sized.xs, sized.ys, sized.zs)))
      (meet_cons _ _ _ _ (floats_meet _ s.poles (omega arith) k.poles (omega (arith, e7, sized.poles)))
      (meet_cons _ _ _ _ (floats_meet _ s.aux (omega arith) k.aux (omega (arith, e8, sized.zs)))
      meet_nil))))))))))

  -- GH of a study makes the study's own records expected
  pub own_table : table_by false (gh_nums r) ≡ table false (gh_nums r) (lengths_of s)
  unfolding table_by
  own_table = ap (table false (gh_nums r)) (own_lengths r ∙ sym fit)
