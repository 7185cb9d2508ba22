-- A study as it is opened (document 01: "Opening as `new_rect`"). Definitions only.
use Rattle.std.specs.Prelude.{ℕ, ◌*◌, false, List, [], ◌∷◌, ◌++◌, replicate, Float}
use Rattle.root.specs.Rounded.{zero_f, one_f}
use Rattle.root.specs.declared.Spacings.{Spacings}
use Rattle.dispersion.specs.Material.{vacuum_material}
use Rattle.grid.specs.declared.Record.{Record}
use Rattle.grid.specs.Canon.{absent_region}
use Rattle.grid.specs.Stores.{Stores, Outcome, settle, stores, zeros, cells, store_lengths, lengths_of, fault_with}

-- material 0 vacuum and alone, nothing periodic or active, layer off, built count 0, no region, time +0.0, steps 0
abbrev pub open_record : (nx ny nz slots : ℕ) → Spacings → (constants : ℕ) → Record
open_record nx ny nz slots s constants = record {
  nx = nx;
  ny = ny;
  nz = nz;
  pole_slots = slots;
  spacings = s;
  periodic = false ∷ false ∷ false ∷ [];
  active = false ∷ false ∷ false ∷ [];
  layer_on = false;
  materials = replicate 16 vacuum_material;
  material_count = 1;
  built_count = 0;
  region = absent_region;
  clock = record { time = zero_f; steps = 0 };
  constants = constants;
}

-- eps_r and mu_r 1.0, sigma +0.0
unfoldable pub open_media : ℕ → List Float
open_media n = replicate (2 * n) one_f ++ zeros n

-- `AxisCoeffs::inactive`: kinv 1.0, b and c +0.0, at the electric places and at the magnetic ones
unfoldable pub inactive : ℕ → List Float
inactive n = replicate n one_f ++ zeros (2 * n) ++ replicate n one_f ++ zeros (2 * n)

unfoldable pub open_tables : (nx ny nz : ℕ) → List Float
open_tables nx ny nz = inactive nx ++ inactive ny ++ inactive nz

unfoldable pub open_stores : Record → Stores
open_stores r =
    let l = store_lengths r in
    stores (zeros l.electric) (zeros l.magnetic) (open_media (cells r)) (zeros l.psi_e) (zeros l.psi_h)
    (open_tables r.nx r.ny r.nz) (zeros l.poles) (zeros l.aux) (replicate (cells r) 0)

-- the standing record is not judged, and is given back where opening is refused
unfoldable pub open_call : Record → (nx ny nz slots : ℕ) → Spacings → (constants : ℕ) → Stores → Outcome Stores
open_call standing nx ny nz slots d constants s =
    let r = open_record nx ny nz slots d constants in
    settle (fault_with r (lengths_of s)) standing s r (open_stores r)
