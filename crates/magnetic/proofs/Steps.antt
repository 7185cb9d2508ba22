-- What the rows give is the half step. Assumes nothing.
use mathlib.Core.Path.{◌≡◌, refl, ◌∙◌, subst}
use mathlib.Core.Bool.{Bool, true, false, cond}
use mathlib.Core.List.{List}
use Prim.Native.Nat.{ℕ, ◌+◌, ◌*◌}
use native.Mathlib.Omega.{arith}
use lib.Dec.{eqb}
use borrow.Author.Tests.{eqb-true}
use lib.ListN.{length, get_or}
use lib.Ieee.{Float, nan}
use Rattle.cells.specs.Cells.{cell_index}
use Rattle.grid.specs.declared.Record.{Record}
use Rattle.grid.specs.Stores.{cells}
use Rattle.fdtd.specs.declared.Axis.{Axis}
use Rattle.fdtd.specs.declared.turns.Turn.{Turn}
use Rattle.fdtd.specs.Axes.{axis, next_of}
use Rattle.fdtd.specs.Yee.{factor}
use Rattle.fdtd.specs.Inner.Cell.{curl_on, first_on, second_on}
use Rattle.fdtd.specs.Halves.{half_h, moves_at, curl_at, first_after, second_after, psi_after, magnetic_at, magnetic_after}
use Rattle.fdtd.specs.Inner.Turns.{turn_x, turn_y, turn_z, turn_for}
use Rattle.fdtd.proofs.Fits.{next_less}
use Rattle.fdtd.proofs.Grids.{All, in_x, in_y, in_z, Of, field_is, memories_are}
use Rattle.magnetic.specs.Inner.Row.{field_h, first_h, second_h}
use Rattle.magnetic.specs.Inner.Swept.{Swept}

module _ (mu0 : Float) (r : Record) (e media tab h m h' m' : List Float) where
  -- what is made of a cell's number and of its memories
  abbrev F : (A B C : Axis) (cell onB onC upB up_c : ℕ) → Float
  F A B C cell onB onC upB up_c =
      field_h A B C (cells r) e tab m cell onB onC upB up_c (factor r.spacings.dt mu0 (get_or media (cells r + cell) nan)) h

  abbrev G : (A B C : Axis) (cell onB onC upB up_c : ℕ) → Float
  G A B C = first_h A B C (cells r) e tab m

  abbrev K : (A B C : Axis) (cell onB onC upB up_c : ℕ) → Float
  K A B C = second_h A B C (cells r) e tab m

  abbrev Each : Type 0
  Each = All r 3 next_of next_less h m h' m' F G K

  in_case : (a b : Bool) → eqb r.nx 1 ≡ a → eqb r.ny 1 ≡ b
      → Swept mu0 (cond a (cond b (turn_z r 3) (turn_y r 3)) (turn_x r 3)) e media tab h m
      ((cond a (cond b (turn_z r 3) (turn_y r 3)) (turn_x r 3)).t.n * (cond a (cond b (turn_z r 3) (turn_y r 3)) (turn_x r 3)).s.n) h' m' → Each
  in_case true true p q w = in_z r 3 next_of next_less h m h' m' F G K (eqb-true r.nx 1 p) (eqb-true r.ny 1 q) w
  in_case true false p q w = in_y r 3 next_of next_less h m h' m' F G K (eqb-true r.nx 1 p) w
  in_case false b p q w = in_x r 3 next_of next_less h m h' m' F G K w

  each_of : (g : Turn) → g ≡ turn_for r 3 → Swept mu0 g e media tab h m (g.t.n * g.s.n) h' m' → Each
  each_of g p w = in_case (eqb r.nx 1) (eqb r.ny 1) refl refl (subst (λ (x : Turn). Swept mu0 x e media tab h m (x.t.n * x.s.n) h' m') p w)

  -- they are the definition's
  field_same : (a i j k : ℕ) → (axis r 3 a).at ≡ a * cells r → Of r 3 next_of F a i j k ≡ magnetic_at mu0 r e media tab m h a i j k
  unfolding magnetic_at moves_at curl_at curl_on field_h
  field_same a i j k p =
      let one : cells r + cell_index r.nx r.ny i j k ≡ 1 * cells r + cell_index r.nx r.ny i j k = omega arith in rw (one, p)

  first_same : (a i j k : ℕ) → Of r 3 next_of G a i j k ≡ first_after half_h r e tab m a i j k
  unfolding first_after first_on moves_at
  first_same a i j k = refl

  second_same : (a i j k : ℕ) → Of r 3 next_of K a i j k ≡ second_after half_h r e tab m a i j k
  unfolding second_after second_on moves_at
  second_same a i j k = refl

  module _ (lh : length h ≡ 3 * cells r) (lm : length m ≡ 6 * cells r) (g : Turn) (p : g ≡ turn_for r 3)
      (w : Swept mu0 g e media tab h m (g.t.n * g.s.n) h' m') where
    pub magnetic_is : h' ≡ magnetic_after mu0 r e media tab m h
    unfolding magnetic_after
    magnetic_is = field_is r 3 next_of next_less h m h' m' F G K (each_of g p w) (w.len_x ∙ lh) _ field_same

    pub psi_is : m' ≡ psi_after half_h r e tab m
    unfolding psi_after
    psi_is = memories_are r 3 next_of next_less h m h' m' F G K (each_of g p w) (w.len_m ∙ lm) _ _ first_same second_same
