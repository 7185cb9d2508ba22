-- What memory holds of nine stores. Definitions only.
use Rattle.std.specs.Prelude.{T}
use Rattle.codec.specs.Bytes.{floats_fit, ids_fit}
use Rattle.grid.specs.Stores.{Stores}

-- floats that 64 bits hold, ids that 32 bits hold
pub record StoresHeld (s : Stores) : Type 0 where
  pub electric : T (floats_fit s.electric)
  pub magnetic : T (floats_fit s.magnetic)
  pub media : T (floats_fit s.media)
  pub psi_e : T (floats_fit s.psi_e)
  pub psi_h : T (floats_fit s.psi_h)
  pub tables : T (floats_fit s.tables)
  pub poles : T (floats_fit s.poles)
  pub aux : T (floats_fit s.aux)
  pub ids : T (ids_fit s.ids)
