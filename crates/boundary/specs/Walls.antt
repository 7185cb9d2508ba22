-- The calls that set walls: `set_periodic`, and `set_boundary` for periodic, conducting and lossy walls (boundary.rs; document 01, 4). The absorbing
-- layer has its call in `cpml`. Definitions only.
use Rattle.std.specs.Prelude.{ℕ, Bool, false, ◌&&◌, List, [], ◌∷◌, length, ◌==◌, nat_le, Float}
use Rattle.refusals.specs.declared.Refusal.TheVariants.{BadOrder}
use Rattle.refusals.specs.Refusals.{number}
use Rattle.grid.specs.declared.Record.{Record}
use Rattle.grid.specs.Fault.{first, fault_of}
use Rattle.grid.specs.Stores.{store_lengths, or_else, fault_lent, Outcome, settle}
use Rattle.grid.specs.Edited.{with_walls}
use Rattle.opening.specs.Layer.{Layer, layer, layer_long, layer_lent, cleared_layer}
use Rattle.boundary.specs.declared.LossyAbsorber.{LossyAbsorber}
use Rattle.boundary.specs.Lossy.{lossy_media}

abbrev pub all_axes : Bool → List Bool
all_axes b = b ∷ b ∷ b ∷ []

-- ---- set_periodic: the flags of the three axes; no store is lent
unfoldable pub set_periodic_call : Record → List Bool → Outcome Unit
set_periodic_call r axes = settle (fault_of r) r tt (with_walls r axes r.active r.layer_on) tt

-- ---- set_boundary, periodic (true) or conducting (false) on all three axes: the layer goes off
unfoldable pub plain_fault : Record → Layer → ℕ
plain_fault r s = fault_lent r (layer_lent s (store_lengths r))

unfoldable pub set_plain_call : Bool → Record → Layer → Outcome Layer
set_plain_call periodic r s =
    settle (plain_fault r s) r s (with_walls r (all_axes periodic) (all_axes false) false) (cleared_layer r.nx r.ny r.nz s)

-- ---- set_boundary, lossy: 10 BadOrder after the first four; the periodic flags stay
abbrev pub bad_order : ℕ
bad_order = number BadOrder

abbrev pub max_order : ℕ
max_order = 8

-- the stores of the layer and the cell numbers
pub record Lossed : Type 0 where
  pub walls : Layer
  pub media : List Float

abbrev pub lossed : (psi_e psi_h tables media : List Float) → Lossed
lossed pe ph t m = record { walls = layer pe ph t; media = m }

unfoldable pub lossy_fault : Record → (order psi_e psi_h tables media : ℕ) → ℕ
lossy_fault r order pe ph t m =
    or_else (fault_lent r (layer_long pe ph t (store_lengths r) && m == (store_lengths r).media)) (first (nat_le order max_order) bad_order 0)

unfoldable pub set_lossy_call : Record → LossyAbsorber → Lossed → Outcome Lossed
set_lossy_call r a s =
    let w = s.walls in
    settle (lossy_fault r a.order (length w.psi_e) (length w.psi_h) (length w.tables) (length s.media)) r s
    (with_walls r r.periodic (all_axes false) false)
    (record { walls = cleared_layer r.nx r.ny r.nz w; media = lossy_media r a s.media })
