-- Document 01's order of a save's faults, worked on small bytes. Assumes nothing.
use Prim.Native.Nat.{ℕ}
use mathlib.Core.Path.{◌≡◌, refl}
use mathlib.Core.List.{List, [], ◌∷◌, ◌++◌}
use lib.Ieee.{of_bits, nan_bits}
use Rattle.codec.specs.Lists.{part}
use Rattle.codec.specs.Bytes.{le, unle, enc, nums, fine}
use Rattle.codec.specs.Frame.{frame_bytes, frame_fault}
use Rattle.grid.specs.declared.Record.{Record}
use Rattle.grid.specs.Fault.{side_fits, sides_fit, size_fits, spacings_fit, all_below, counts_fit, material_steps, material_fits, poles_fit, layer_fits, region_fits, study_fits, fault_of}
use Rattle.heads.specs.Numbers.{old_widths, old_length, gh_widths, gh_length, flags_fine, corners_fine, gh_shaped, gh_fine, gh_of}
use Rattle.format.specs.Records.{record_fault, records_fault}
use Rattle.format.specs.Save.{mark_gh, save_length}
use Rattle.format.specs.Rewind.{is_old, bare, head_good, table, table_by, bytes_fault}

-- one cell, spacings 1.0, P pole slots, one material, constants c
abbrev one : ℕ
one = 0x3FF0000000000000

abbrev head : (p c : ℕ) → List ℕ
head p c =
    1 ∷ 1 ∷ 1 ∷ 0 ∷ 0 ∷ 0 ∷ 0 ∷ 0 ∷ 0 ∷ 0 ∷ 0 ∷ p ∷ 1 ∷ 0 ∷ 0 ∷ 0 ∷ 0 ∷ 0 ∷ 0 ∷ 0 ∷ one ∷ one ∷ one ∷ one ∷ 0 ∷ 0 ∷ c ∷ []

abbrev gh : (p c : ℕ) → List ℕ
gh p c = frame_bytes mark_gh gh_length ++ enc gh_widths (head p c)

-- the same as it was written before there were constants
abbrev old_gh : ℕ → List ℕ
old_gh p = frame_bytes mark_gh old_length ++ enc old_widths (head p 0)

-- nothing at all is 13; another mark is 14; another length of GH than 73 and 74 is 15, though the payload is cut off too; a payload
-- cut off is 13
pub first_frame : (bytes_fault [] ≡ 13) × (bytes_fault (frame_bytes 0x4747 gh_length) ≡ 14) × (bytes_fault (frame_bytes mark_gh 75) ≡ 15) × (bytes_fault (frame_bytes mark_gh 72) ≡ 15)
    × (bytes_fault (frame_bytes mark_gh gh_length) ≡ 13) × (bytes_fault (frame_bytes mark_gh old_length) ≡ 13)
unfolding bytes_fault is_old table_by table records_fault record_fault frame_fault part enc le unle
first_frame = (refl, refl, refl, refl, refl, refl)

-- P 5 is at fault in GH, before it is seen that there is no ML; P 4 is not; nor are the constants 1, and 2 are. An old GH alike, with a 74 in its length
-- field cut off and with ML's first byte read as constants at fault
pub cut_after_head : (bytes_fault (gh 5 0) ≡ 15) × (bytes_fault (gh 4 0) ≡ 13) × (bytes_fault (gh 4 1) ≡ 13) × (bytes_fault (gh 4 2) ≡ 15)
    × (bytes_fault (old_gh 5) ≡ 15) × (bytes_fault (old_gh 4) ≡ 13) × (bytes_fault (frame_bytes mark_gh gh_length ++ enc old_widths (head 4 0)) ≡ 13)
    × (bytes_fault (frame_bytes mark_gh gh_length ++ enc old_widths (head 4 0) ++ (77 ∷ [])) ≡ 15)
unfolding bytes_fault is_old table_by table records_fault record_fault frame_fault part enc le unle nums head_good bare gh_fine gh_shaped flags_fine corners_fine fine nan_bits gh_of fault_of size_fits sides_fit side_fits spacings_fit of_bits study_fits counts_fit material_steps material_fits poles_fit all_below layer_fits region_fits
cut_after_head = (refl, refl, refl, refl, refl, refl, refl, refl)

-- a study of one cell, no pole slot and one material: 1,389 bytes
pub one_cell : (r : Record) → r.nx ≡ 1 → r.ny ≡ 1 → r.nz ≡ 1 → r.pole_slots ≡ 0 → r.material_count ≡ 1 → save_length r ≡ 1389
unfolding save_length
one_cell r x y z p m = rw (x, y, z, p, m)
