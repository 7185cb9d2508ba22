-- `set_boundary` with the absorbing layer: which axes are active, and what the tables then hold (cpml.rs, `Cpml::new`; document 01, 5). Definitions only.
use Rattle.std.specs.Prelude.{ℕ, ◌+◌, ◌*◌, Bool, true, false, not, cond, ◌&&◌, List, [], ◌∷◌, ◌++◌, leb, eqb, length, get_or, Float, Result, Ok, Err}
use Rattle.refusals.specs.declared.Refusal.{Refusal}
use Rattle.codec.specs.Lists.{part}
use Rattle.grid.specs.declared.Record.{Record}
use Rattle.grid.specs.Edited.{with_walls}
use Rattle.opening.specs.Opening.{inactive}
use Rattle.grid.specs.Stores.{zeros, store_lengths, fault_lent, Outcome, settle}
use Rattle.opening.specs.Layer.{Layer, layer, layer_long}

-- asked for, thickness not 0, and n at least 2·thickness + 2
unfoldable pub axis_active : Bool → (thickness n : ℕ) → Bool
axis_active asked t n = asked && not (eqb t 0) && leb (2 * t + 2) n

unfoldable pub active_axes : Record → List Bool → ℕ → List Bool
active_axes r axes t =
    axis_active (get_or axes 0 false) t r.nx ∷ axis_active (get_or axes 1 false) t r.ny ∷ axis_active (get_or axes 2 false) t r.nz ∷ []

-- an axis asked for is periodic no more, active or not
abbrev wraps : List Bool → List Bool → ℕ → Bool
wraps periodic axes a = get_or periodic a false && not (get_or axes a false)

unfoldable pub periodic_left : List Bool → List Bool → List Bool
periodic_left periodic axes = wraps periodic axes 0 ∷ wraps periodic axes 1 ∷ wraps periodic axes 2 ∷ []

-- an active axis has the tables handed in, any other those of opening
abbrev pub axis_tables : Bool → ℕ → List Float → List Float
axis_tables on n given = cond on given (inactive n)

unfoldable pub layer_tables : (nx ny nz : ℕ) → List Bool → List Float → List Float
layer_tables nx ny nz active given =
    axis_tables (get_or active 0 false) nx (part given 0 (6 * nx))
    ++ axis_tables (get_or active 1 false) ny (part given (6 * nx) (6 * ny))
    ++ axis_tables (get_or active 2 false) nz (part given (6 * nx + 6 * ny) (6 * nz))

-- the handed-in tables are judged under 4 as the lent ones are
unfoldable pub cpml_fault : Record → (psi_e psi_h tables given : ℕ) → ℕ
cpml_fault r pe ph t g = fault_lent r (layer_long pe ph t (store_lengths r) && eqb g (store_lengths r).tables)

-- the active axes and the layer's stores
pub record Absorbed : Type 0 where
  pub axes : List Bool
  pub stores : Layer

abbrev pub absorbed : List Bool → Layer → Absorbed
absorbed a s = record { axes = a; stores = s }

abbrev pub no_axis : List Bool
no_axis = false ∷ false ∷ false ∷ []

-- the axes on which the layer absorbs after a call; refused, none
abbrev pub active_in : Result Record Refusal → List Bool
active_in (Ok r) = r.active
active_in (Err f) = no_axis

-- the answer names the active axes; refused, none
unfoldable pub set_cpml_call : Record → List Bool → ℕ → List Float → Layer → Outcome Absorbed
set_cpml_call r axes t given s =
    let active = active_axes r axes t in
    settle (cpml_fault r (length s.psi_e) (length s.psi_h) (length s.tables) (length given)) r (absorbed no_axis s)
    (with_walls r (periodic_left r.periodic axes) active true)
    (absorbed active (layer (zeros (length s.psi_e)) (zeros (length s.psi_h)) (layer_tables r.nx r.ny r.nz active given)))
