-- The fields cleared, their energy, and the plane reading (grid.rs, `reset_fields` and `total_energy`; document 01). Definitions only.
use Rattle.refusals.specs.declared.Refusal.TheVariants.{NoSuchPlane}
use Rattle.refusals.specs.Refusals.{number}
use Rattle.std.specs.Prelude.{ℕ, ◌+◌, ◌*◌, Bool, ◌&&◌, List, ltb, eqb, length, Float}
use Rattle.root.specs.Rounded.{◌⊕◌, ◌⊗◌, zero_f, half_f, summed}
use Rattle.grid.specs.declared.Record.{Record}
use Rattle.grid.specs.declared.stores.Lengths.{Lengths}
use Rattle.grid.specs.Fault.{first}
use Rattle.grid.specs.Stores.{number_at, zeros, cells, store_lengths, or_else, fault_lent, Outcome, settle}

-- ---- reset_fields: E, H, memories, poles and dp; not the auxiliary line, not the clock
pub record Reset : Type 0 where
  pub electric : List Float
  pub magnetic : List Float
  pub psi_e : List Float
  pub psi_h : List Float
  pub poles : List Float

abbrev pub reset : (electric magnetic psi_e psi_h poles : List Float) → Reset
reset e h pe ph p = record { electric = e; magnetic = h; psi_e = pe; psi_h = ph; poles = p }

unfoldable pub reset_long : (electric magnetic psi_e psi_h poles : ℕ) → Lengths → Bool
reset_long e h pe ph p l =
    eqb e l.electric && eqb h l.magnetic && eqb pe l.psi_e && eqb ph l.psi_h && eqb p l.poles

abbrev pub cleared : List Float → List Float
cleared l = zeros (length l)

unfoldable pub reset_call : Record → Reset → Outcome Reset
reset_call r s =
    settle
    (fault_lent r (reset_long (length s.electric) (length s.magnetic) (length s.psi_e) (length s.psi_h) (length s.poles) (store_lengths r)))
    r s r
    (reset (cleared s.electric) (cleared s.magnetic) (cleared s.psi_e) (cleared s.psi_h) (cleared s.poles))

-- ---- readings
-- x² + y² + z² of a field's three numbers
unfoldable pub squared : (x y z : Float) → Float
squared x y z = x ⊗ x ⊕ y ⊗ y ⊕ z ⊗ z

-- W = (ε E² / 2 + μ H² / 2) dV of one cell
unfoldable pub cell_energy : (eps0 mu0 dv eps_r muR e² h² : Float) → Float
cell_energy eps0 mu0 dv eps_r muR e² h² = (half_f ⊗ (eps0 ⊗ eps_r) ⊗ e² ⊕ half_f ⊗ (mu0 ⊗ muR) ⊗ h²) ⊗ dv

unfoldable pub energy_at : (eps0 mu0 dv : Float) → (n : ℕ) → (electric magnetic media : List Float) → ℕ → Float
energy_at eps0 mu0 dv n e h media m =
    cell_energy eps0 mu0 dv (number_at media n 0 m) (number_at media n 1 m)
    (squared (number_at e n 0 m) (number_at e n 1 m) (number_at e n 2 m))
    (squared (number_at h n 0 m) (number_at h n 1 m) (number_at h n 2 m))

-- the cells' energies added up in store order: k outermost, then j, then i
unfoldable pub energy_of : (eps0 mu0 : Float) → Record → (electric magnetic media : List Float) → Float
energy_of eps0 mu0 r e h media =
    let s = r.spacings in
    summed (cells r) (energy_at eps0 mu0 (s.dx ⊗ s.dy ⊗ s.dz) (cells r) e h media)

unfoldable pub energy_fault : Record → (electric magnetic media : ℕ) → ℕ
energy_fault r e h m = fault_lent r (eqb e (store_lengths r).electric && eqb h (store_lengths r).magnetic && eqb m (store_lengths r).media)

unfoldable pub energy_call : (eps0 mu0 : Float) → Record → (electric magnetic media : List Float) → Outcome Float
energy_call eps0 mu0 r e h media =
    settle (energy_fault r (length e) (length h) (length media)) r zero_f r (energy_of eps0 mu0 r e h media)

-- ---- the plane reading at k: ex·hy added up, j outer and i inner, which is store order within the plane; the sum times (dx·dy)
unfoldable pub plane_at : (nx ny n k : ℕ) → (electric magnetic : List Float) → ℕ → Float
plane_at nx ny n k e h m = number_at e n 0 (k * (nx * ny) + m) ⊗ number_at h n 1 (k * (nx * ny) + m)

unfoldable pub plane_of : Record → (k : ℕ) → (electric magnetic : List Float) → Float
plane_of r k e h =
    let s = r.spacings in
    summed (r.nx * r.ny) (plane_at r.nx r.ny (cells r) k e h) ⊗ (s.dx ⊗ s.dy)

abbrev pub no_such_plane : ℕ
no_such_plane = number NoSuchPlane

unfoldable pub plane_fault : Record → (k electric magnetic : ℕ) → ℕ
plane_fault r k e h =
    or_else (fault_lent r (eqb e (store_lengths r).electric && eqb h (store_lengths r).magnetic)) (first (ltb k r.nz) no_such_plane 0)

unfoldable pub plane_call : Record → (k : ℕ) → (electric magnetic : List Float) → Outcome Float
plane_call r k e h = settle (plane_fault r k (length e) (length h)) r zero_f r (plane_of r k e h)
