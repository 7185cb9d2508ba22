-- Where the pole store holds dp, in rows and by component. Assumes nothing.
use mathlib.Core.Path.{◌≡◌, refl, sym, ◌∙◌, ap}
use mathlib.Core.Bool.{Bool, true, false, not, cond}
use mathlib.Core.List.{List}
use Prim.Native.Nat.{ℕ, ◌+◌, ◌*◌}
use native.Mathlib.Nat.{add-mul}
use native.Mathlib.Omega.{arith}
use lib.Dec.{eqb}
use lib.ListN.{length, get_or}
use lib.Ieee.{Float, nan}
use Rattle.root.specs.Rounded.{zero_f}
use Rattle.grid.specs.declared.Record.{Record}
use Rattle.grid.specs.Stores.{cells}
use Rattle.ade.specs.Polarization.{delta_p}
use Rattle.fdtd.specs.declared.turns.Turn.{Turn}
use Rattle.fdtd.specs.Inner.Turns.{turn_x, turn_y, turn_z, turn_for}
use Rattle.electric.specs.Inner.Row.{dp_of, DpRoom}
use Rattle.electric.specs.Inner.Swept.{change_for}

pub dp_room : (p n l : ℕ) → l ≡ (6 * p + 3) * n → 6 * p * n + 3 * n ≡ l
dp_room p n l e = sym (e ∙ add-mul (6 * p) 3 n)

module _ (r : Record) (poles : List Float) (stored : length poles ≡ (6 * r.pole_slots + 3) * cells r) where
  room : 6 * r.pole_slots * cells r + 3 * cells r ≡ length poles
  room = dp_room r.pole_slots (cells r) (length poles) stored

  held_x : DpRoom (turn_x r 0) (change_for r) poles
  held_x = record { r = omega (arith, room); s = omega (arith, room); t = omega (arith, room) }

  held_case : (a b : Bool) → DpRoom (cond a (cond b (turn_z r 0) (turn_y r 0)) (turn_x r 0)) (change_for r) poles
  held_case true true = record { r = held_x.t; s = held_x.r; t = held_x.s }
  held_case true false = record { r = held_x.s; s = held_x.t; t = held_x.r }
  held_case false b = held_x

  pub held_for : {g : Turn} → g ≡ turn_for r 0 → DpRoom g (change_for r) poles
  held_for p = rw p (held_case (eqb r.nx 1) (eqb r.ny 1))

turned : (b : Bool) (x y : Float) → cond (not b) x y ≡ cond b y x
turned true x y = refl
turned false x y = refl

pub delta_is : (r : Record) (poles : List Float) (a at m : ℕ) → at ≡ a * cells r → dp_of (change_for r) poles (at + m) ≡ delta_p r poles a m
unfolding dp_of delta_p
delta_is r poles a at m e =
    let p : 6 * r.pole_slots * cells r + (at + m) ≡ (6 * r.pole_slots + a) * cells r + m = omega (arith, add-mul (6 * r.pole_slots) a (cells r)) in
    turned (eqb r.built_count 0) (get_or poles (6 * r.pole_slots * cells r + (at + m)) nan) zero_f
    ∙ ap (λ (x : ℕ). cond (eqb r.built_count 0) zero_f (get_or poles x nan)) p
