-- The absorbing layer's three stores, and the layer as it is opened. Definitions only.
use Rattle.std.specs.Prelude.{ℕ, Bool, ◌&&◌, List, eqb, length, Float}
use Rattle.grid.specs.declared.stores.Lengths.{Lengths}
use Rattle.grid.specs.Stores.{zeros}
use Rattle.opening.specs.Opening.{open_tables}

-- the stores of the absorbing layer: both memories and the tables
pub record Layer : Type 0 where
  pub psi_e : List Float
  pub psi_h : List Float
  pub tables : List Float

abbrev pub layer : (psi_e psi_h tables : List Float) → Layer
layer pe ph t = record { psi_e = pe; psi_h = ph; tables = t }

-- whether they have the lengths l
unfoldable pub layer_long : (psi_e psi_h tables : ℕ) → Lengths → Bool
layer_long pe ph t l = eqb pe l.psi_e && eqb ph l.psi_h && eqb t l.tables

abbrev pub layer_lent : Layer → Lengths → Bool
layer_lent s = layer_long (length s.psi_e) (length s.psi_h) (length s.tables)

-- every `set_boundary` clears the memories and puts the tables back to opening
unfoldable pub cleared_layer : (nx ny nz : ℕ) → Layer → Layer
cleared_layer nx ny nz s = layer (zeros (length s.psi_e)) (zeros (length s.psi_h)) (open_tables nx ny nz)
