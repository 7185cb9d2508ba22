-- The save of a study (document 01, "The save"): eleven records, GH ML CI CM FE FH LE LH LT PP AX. Definitions only.
use Rattle.refusals.specs.declared.Refusal.TheVariants.{NoRoom}
use Rattle.refusals.specs.Refusals.{number}
use Rattle.std.specs.Prelude.{ℕ, ◌+◌, ◌*◌, List, [], ◌∷◌, leb, length, get_or}
use Rattle.codec.specs.Lists.{put}
use Rattle.codec.specs.Bytes.{floats_bytes, ids_bytes}
use Rattle.cells.specs.Cells.{joined}
use Rattle.grid.specs.declared.Record.{Record}
use Rattle.grid.specs.declared.stores.Lengths.{Lengths}
use Rattle.grid.specs.Fault.{beyond, first, fault_of}
use Rattle.grid.specs.Stores.{Stores, Outcome, cells, lengths_of, or_else, fault_with, settle}
use Rattle.heads.specs.Payloads.{head_bytes, material_bytes}
use Rattle.format.specs.Records.{Piece, piece, frames}

-- ---- the marks: two letters, the first one first
abbrev pub letters : ℕ → ℕ → ℕ
letters a b = a + 256 * b

abbrev pub mark_gh : ℕ
mark_gh = letters 71 72

abbrev pub mark_ml : ℕ
mark_ml = letters 77 76

abbrev pub mark_ci : ℕ
mark_ci = letters 67 73

abbrev pub mark_cm : ℕ
mark_cm = letters 67 77

abbrev pub mark_fe : ℕ
mark_fe = letters 70 69

abbrev pub mark_fh : ℕ
mark_fh = letters 70 72

abbrev pub mark_le : ℕ
mark_le = letters 76 69

abbrev pub mark_lh : ℕ
mark_lh = letters 76 72

abbrev pub mark_lt : ℕ
mark_lt = letters 76 84

abbrev pub mark_pp : ℕ
mark_pp = letters 80 80

abbrev pub mark_ax : ℕ
mark_ax = letters 65 88

-- ---- the eleven records
abbrev pub eleven : (gh ml ci cm fe fh le lh lt pp ax : List ℕ) → List Piece
eleven gh ml ci cm fe fh le lh lt pp ax =
    piece mark_gh gh ∷ piece mark_ml ml ∷ piece mark_ci ci ∷ piece mark_cm cm ∷ piece mark_fe fe ∷ piece mark_fh fh
    ∷ piece mark_le le ∷ piece mark_lh lh ∷ piece mark_lt lt ∷ piece mark_pp pp ∷ piece mark_ax ax ∷ []

-- ML: the counted materials, one after another
unfoldable pub list_bytes : Record → List ℕ
list_bytes r = joined r.material_count (λ i. material_bytes (get_or r.materials i beyond))

unfoldable pub pieces : Record → Stores → List Piece
pieces r s =
    eleven (head_bytes r) (list_bytes r) (ids_bytes s.ids) (floats_bytes s.media) (floats_bytes s.electric) (floats_bytes s.magnetic)
    (floats_bytes s.psi_e) (floats_bytes s.psi_h) (floats_bytes s.tables) (floats_bytes s.poles) (floats_bytes s.aux)

unfoldable pub save_bytes : Record → Stores → List ℕ
save_bytes r s = frames (pieces r s)

-- 908 + 125M + 196N + 48PN + 48L + 16nz
unfoldable pub save_length : Record → ℕ
save_length r =
    908 + 125 * r.material_count + 196 * cells r + 48 * (r.pole_slots * cells r) + 48 * (r.nx + r.ny + r.nz) + 16 * r.nz

-- the length asked for: the first three faults, no store being lent
unfoldable pub length_call : Record → Outcome ℕ
length_call r = settle (fault_of r) r 0 r (save_length r)

-- ---- the call: the four faults that come first, then 12 NoRoom; bytes beyond the length stay
abbrev pub no_room : ℕ
no_room = number NoRoom

unfoldable pub save_fault : Record → Lengths → (room : ℕ) → ℕ
save_fault r l room = or_else (fault_with r l) (first (leb (save_length r) room) no_room 0)

unfoldable pub save_call : Record → Stores → (room : List ℕ) → Outcome (List ℕ)
save_call r s room = settle (save_fault r (lengths_of s) (length room)) r room r (put room 0 (save_bytes r s))
