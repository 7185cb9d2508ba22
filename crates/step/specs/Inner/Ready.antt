-- What a step takes for granted: what a study without fault gives.
use Rattle.std.specs.Prelude.{◌+◌, ◌*◌, ◌≡◌, length}
use Rattle.grid.specs.declared.Record.{Record}
use Rattle.grid.specs.Stores.{Stores, cells}
use Rattle.halves.specs.Inner.Ready.{Wavy, Polar}

pub record StepReady (r : Record) (s : Stores) : Type 0 where
  pub wavy : Wavy r s.media s.aux s.magnetic
  pub polar : Polar r s.ids s.electric s.poles
  pub memory : (length s.psi_e ≡ 6 * cells r) × (length s.psi_h ≡ 6 * cells r) × (length s.tables ≡ 6 * (r.nx + r.ny + r.nz))
