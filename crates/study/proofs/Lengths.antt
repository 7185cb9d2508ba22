-- An accepted step leaves every store as long as it was. Assumes nothing.
use Prim.Native.Nat.{ℕ, ◌+◌, ◌*◌}
use native.Mathlib.Nat.{mul_comm}
use native.Mathlib.Omega.{arith}
use mathlib.Core.Path.{◌≡◌, sym, ap, ◌∙◌}
use mathlib.Core.Bool.{Bool, true, false, cond}
use mathlib.Core.List.{List, ◌++◌}
use lib.Dec.{eqb}
use lib.ListN.{length, length-append}
use lib.Ieee.{Float}
use Rattle.cells.specs.Cells.{row, components}
use Rattle.cells.specs.Reading.{length_joined, length_row, length_cellwise}
use Rattle.grid.specs.declared.Record.{Record}
use Rattle.grid.specs.declared.stores.Lengths.{Lengths}
use Rattle.grid.specs.Stores.{Stores, cells, store_lengths, lengths_of, fault_with, line_length}
use Rattle.grid.specs.Fault.{is_absent}
use Rattle.grid.proofs.Tests.{or_none}
use Rattle.grid.proofs.Settled.{with_none}
use Rattle.ade.specs.Polarization.{poles_after}
use Rattle.fdtd.specs.Halves.{Half, half_h, psi_after, magnetic_after, half_e, electric_after}
use Rattle.tfsf.specs.Line.{line_h, line_e}
use Rattle.tfsf.specs.declared.faces.Face.{Face}
use Rattle.tfsf.specs.Corrections.{correct_face}
use Rattle.step.specs.Step.{step_fault, line_mid, corrected_h, corrected_e, line_end, poles_stepped, stepped}
use Rattle.study.proofs.Corrected.{h_by, e_by}

-- ---- lists by cells
turned : (nx ny nz : ℕ) → nz * (ny * nx) ≡ nx * ny * nz
turned nx ny nz = rw (mul_comm ny nx) (mul_comm nz (nx * ny))

length_components : {A : Type 0} (n nx ny nz : ℕ) (f : ℕ → ℕ → ℕ → ℕ → A) → length (components n nx ny nz f) ≡ n * (nx * ny * nz)
unfolding components
length_components n nx ny nz f = length_joined n (nx * ny * nz) _ (λ c l. length_cellwise nx ny nz (f c) ∙ turned nx ny nz)

-- either way as long
either : {A : Type 0} (b : Bool) (x y : List A) (n : ℕ) → length x ≡ n → length y ≡ n → length (cond b x y) ≡ n
either true x y n p q = p
either false x y n p q = q

-- ---- a step
face_long : (r : Record) (f : Face) (added : ℕ → ℕ → ℕ → Float) (s : List Float) → length s ≡ 3 * cells r → length (correct_face r f added s) ≡ 3 * cells r
unfolding correct_face
face_long r f added s e = either f.there _ s (3 * cells r) (length_components 3 r.nx r.ny r.nz _) e

module _ (r : Record) (media line : List Float) where
  abbrev Long : List Float → Type 0
  Long l = length l ≡ 3 * cells r

  h_long : (mu0 : Float) (h : List Float) → Long h → Long (corrected_h mu0 r media line h)
  h_long = h_by Long r media line (face_long r)

  e_long : (eps0 : Float) (e : List Float) → Long e → Long (corrected_e eps0 r media line e)
  e_long = e_by Long r media line (face_long r)

psi_long : (w : Half) (r : Record) (field tables mem : List Float) → length (psi_after w r field tables mem) ≡ 6 * cells r
unfolding psi_after
psi_long w r field tables mem = length_components 6 r.nx r.ny r.nz _

magnetic_long : (mu0 : Float) (r : Record) (e media tables psi h : List Float) → length (magnetic_after mu0 r e media tables psi h) ≡ 3 * cells r
unfolding magnetic_after
magnetic_long mu0 r e media tables psi h = length_components 3 r.nx r.ny r.nz _

electric_long : (eps0 : Float) (r : Record) (h media tables : List Float) (dp : ℕ → ℕ → Float) (psi e : List Float) → length (electric_after eps0 r h media tables dp psi e) ≡ 3 * cells r
unfolding electric_after
electric_long eps0 r h media tables dp psi e = length_components 3 r.nx r.ny r.nz _

polarized_long : (eps0 : Float) (r : Record) (ids : List ℕ) (e poles : List Float) → length poles ≡ (6 * r.pole_slots + 3) * cells r
    → length (poles_stepped eps0 r ids e poles) ≡ (6 * r.pole_slots + 3) * cells r
unfolding poles_stepped poles_after
polarized_long eps0 r ids e poles h =
    either (eqb r.built_count 0) poles _ _ h (length_joined (6 * r.pole_slots + 3) (cells r) _ (λ n l. length_row (cells r) _))

rows_long : (n : ℕ) (f g : ℕ → Float) → length (row n f ++ row n g) ≡ 2 * n
rows_long n f g = length-append (row n f) (row n g) ∙ omega (arith, length_row n f, length_row n g)

mid_long : (mu0 : Float) (r : Record) (aux : List Float) → length aux ≡ 2 * line_length r.nz → length (line_mid mu0 r aux) ≡ 2 * line_length r.nz
unfolding line_mid line_h
mid_long mu0 r aux e = either (is_absent r.region.kind) aux _ (2 * line_length r.nz) e (rows_long (line_length r.nz) _ _)

end_long : (eps0 c0 : Float) (r : Record) (x : Float) (line : List Float) → length line ≡ 2 * line_length r.nz → length (line_end eps0 c0 r x line) ≡ 2 * line_length r.nz
unfolding line_end line_e
end_long eps0 c0 r x line e = either (is_absent r.region.kind) line _ (2 * line_length r.nz) e (rows_long (line_length r.nz) _ _)

stepped_long : (eps0 mu0 c0 : Float) (r : Record) (x : Float) (s : Stores) → lengths_of s ≡ store_lengths r → lengths_of (stepped eps0 mu0 c0 r x s) ≡ store_lengths r
unfolding stepped store_lengths
stepped_long eps0 mu0 c0 r x s l =
    let media_is = ap (λ (k : Lengths). k.media) l in
    let tables-is = ap (λ (k : Lengths). k.tables) l in
    let ids-is = ap (λ (k : Lengths). k.ids) l in
    let line = line_mid mu0 r s.aux in
    let mid = mid_long mu0 r s.aux (ap (λ (k : Lengths). k.aux) l) in
    let h = h_long r s.media line mu0 (magnetic_after mu0 r s.electric s.media s.tables s.psi_h s.magnetic) (magnetic_long mu0 r s.electric s.media s.tables s.psi_h s.magnetic) in
    let poles = polarized_long eps0 r s.ids s.electric s.poles (ap (λ (k : Lengths). k.poles) l) in
    let end = end_long eps0 c0 r x line mid in
    rw (
      e_long r s.media line eps0 _ (electric_long eps0 r _ s.media s.tables _ s.psi_e s.electric),
      h,
      media_is,
      psi_long half_e r _ s.tables s.psi_e,
      psi_long half_h r s.electric s.tables s.psi_h,
      tables-is,
      poles,
      end,
      ids-is,
    )

step_fits : (r : Record) (s : Stores) (n : ℕ) → step_fault r (lengths_of s) s.ids n ≡ 0 → lengths_of s ≡ store_lengths r
unfolding step_fault
step_fits r s n e = (with_none r (lengths_of s) (or_none (fault_with r (lengths_of s)) _ e).0).1

pub step_long : (eps0 mu0 c0 : Float) (r : Record) (x : Float) (s : Stores) (n : ℕ) → step_fault r (lengths_of s) s.ids n ≡ 0 → lengths_of (stepped eps0 mu0 c0 r x s) ≡ lengths_of s
step_long eps0 mu0 c0 r x s n e = let l = step_fits r s n e in stepped_long eps0 mu0 c0 r x s l ∙ sym l
