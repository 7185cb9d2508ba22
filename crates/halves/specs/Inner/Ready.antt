-- What the halves of a step take for granted: what a study without fault gives.
use Rattle.std.specs.Prelude.{ℕ, ◌+◌, ◌*◌, ◌<◌, ◌≡◌, false, true, List, eqb, length, get_or, Float}
use Rattle.grid.specs.declared.Record.{Record}
use Rattle.grid.specs.Fault.{is_absent, poles_fit}
use Rattle.grid.specs.Inner.Sound.{Sound}
use Rattle.grid.specs.Stores.{cells, line_length}
use Rattle.corrections.specs.Inner.Faces.{Corners}

-- for the wave's part of a half step
pub record Wavy (r : Record) (media aux f : List Float) : Type 0 where
  pub sound : Sound r
  pub corners : is_absent r.region.kind ≡ false → Corners r.region r.nx r.ny r.nz
  pub stuff : length media ≡ 3 * cells r
  pub wave : length aux ≡ 2 * line_length r.nz
  pub field : length f ≡ 3 * cells r

-- for the polarizations
pub record Polar (r : Record) (ids : List ℕ) (electric poles : List Float) : Type 0 where
  pub sound : Sound r
  pub fit : poles_fit r ≡ true
  pub known : eqb r.built_count 0 ≡ false → (m : ℕ) → m < cells r → get_or ids m 0 < r.material_count
  pub numbered : length ids ≡ cells r
  pub field : length electric ≡ 3 * cells r
  pub stored : length poles ≡ (6 * r.pole_slots + 3) * cells r
