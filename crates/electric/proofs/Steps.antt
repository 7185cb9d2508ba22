-- What the rows give is the half step. Assumes nothing.
use mathlib.Core.Path.{◌≡◌, refl, ◌∙◌, ap, subst}
use mathlib.Core.Bool.{Bool, true, false, cond}
use mathlib.Core.List.{List}
use Prim.Native.Nat.{ℕ, ◌+◌, ◌*◌}
use native.Mathlib.Omega.{arith}
use lib.Dec.{eqb}
use borrow.Author.Tests.{eqb-true}
use lib.ListN.{length, get_or}
use lib.Ieee.{Float, nan}
use Rattle.cells.specs.Cells.{cell_index}
use Rattle.grid.specs.declared.Record.{Record}
use Rattle.grid.specs.Stores.{cells}
use Rattle.ade.specs.Polarization.{delta_p}
use Rattle.fdtd.specs.declared.Axis.{Axis}
use Rattle.fdtd.specs.declared.turns.Turn.{Turn}
use Rattle.fdtd.specs.Axes.{axis, previous_of}
use Rattle.fdtd.specs.Yee.{ca, cb, updated_e}
use Rattle.fdtd.specs.Inner.Cell.{curl_on, first_on, second_on}
use Rattle.fdtd.specs.Halves.{half_e, moves_at, curl_at, first_after, second_after, psi_after, electric_at, electric_after}
use Rattle.fdtd.specs.Inner.Turns.{turn_x, turn_y, turn_z, turn_for}
use Rattle.fdtd.proofs.Fits.{previous_less}
use Rattle.fdtd.proofs.Grids.{All, in_x, in_y, in_z, Of, field_is, memories_are}
use Rattle.electric.specs.Inner.Row.{dp_of, field_e, first_e, second_e}
use Rattle.electric.specs.Inner.Swept.{Swept, change_for}
use Rattle.electric.proofs.Polarized.{delta_is}

-- over variables
by_place : (go : Bool) (eps0 dt sigma u : Float) {eps_r epsR' dp dp' e e' : Float} → eps_r ≡ epsR' → dp ≡ dp' → e ≡ e'
    → updated_e go (ca eps0 dt eps_r sigma) (cb eps0 dt eps_r sigma) dt dp u e ≡ updated_e go (ca eps0 dt epsR' sigma) (cb eps0 dt epsR' sigma) dt dp' u e'
by_place go eps0 dt sigma u p q s = rw (p, q, s)

module _ (eps0 : Float) (r : Record) (h media tab poles e m e' m' : List Float) where
  -- what is made of a cell's number and of its memories
  abbrev F : (A B C : Axis) (cell onB onC downB down_c : ℕ) → Float
  F A B C cell onB onC downB down_c =
      field_e A B C (cells r) h tab m cell onB onC downB down_c
      (ca eps0 r.spacings.dt (get_or media cell nan) (get_or media (2 * cells r + cell) nan))
      (cb eps0 r.spacings.dt (get_or media cell nan) (get_or media (2 * cells r + cell) nan)) r.spacings.dt (dp_of (change_for r) poles (A.at + cell)) e

  abbrev G : (A B C : Axis) (cell onB onC downB down_c : ℕ) → Float
  G A B C = first_e A B C (cells r) h tab m

  abbrev K : (A B C : Axis) (cell onB onC downB down_c : ℕ) → Float
  K A B C = second_e A B C (cells r) h tab m

  abbrev Each : Type 0
  Each = All r 0 previous_of previous_less e m e' m' F G K

  in_case : (a b : Bool) → eqb r.nx 1 ≡ a → eqb r.ny 1 ≡ b
      → Swept eps0 (change_for r) (cond a (cond b (turn_z r 0) (turn_y r 0)) (turn_x r 0)) h media tab poles e m
      ((cond a (cond b (turn_z r 0) (turn_y r 0)) (turn_x r 0)).t.n * (cond a (cond b (turn_z r 0) (turn_y r 0)) (turn_x r 0)).s.n) e' m' → Each
  in_case true true p q w = in_z r 0 previous_of previous_less e m e' m' F G K (eqb-true r.nx 1 p) (eqb-true r.ny 1 q) w
  in_case true false p q w = in_y r 0 previous_of previous_less e m e' m' F G K (eqb-true r.nx 1 p) w
  in_case false b p q w = in_x r 0 previous_of previous_less e m e' m' F G K w

  each_of : (g : Turn) → g ≡ turn_for r 0 → Swept eps0 (change_for r) g h media tab poles e m (g.t.n * g.s.n) e' m' → Each
  each_of g p w = in_case (eqb r.nx 1) (eqb r.ny 1) refl refl (subst (λ (x : Turn). Swept eps0 (change_for r) x h media tab poles e m (x.t.n * x.s.n) e' m') p w)

  -- they are the definition's
  field_same : (a i j k : ℕ) → (axis r 0 a).at ≡ a * cells r → Of r 0 previous_of F a i j k ≡ electric_at eps0 r h media tab (delta_p r poles) m e a i j k
  unfolding electric_at moves_at curl_at curl_on field_e
  field_same a i j k p =
      let cell : ℕ = cell_index r.nx r.ny i j k in
      let none : cell ≡ 0 * cells r + cell = omega arith in
      by_place _ eps0 r.spacings.dt _ _ (ap (λ (n : ℕ). get_or media n nan) none) (delta_is r poles a (axis r 0 a).at cell p) (ap (λ (n : ℕ). get_or e (n + cell) nan) p)

  first_same : (a i j k : ℕ) → Of r 0 previous_of G a i j k ≡ first_after half_e r h tab m a i j k
  unfolding first_after first_on moves_at
  first_same a i j k = refl

  second_same : (a i j k : ℕ) → Of r 0 previous_of K a i j k ≡ second_after half_e r h tab m a i j k
  unfolding second_after second_on moves_at
  second_same a i j k = refl

  module _ (le : length e ≡ 3 * cells r) (lm : length m ≡ 6 * cells r) (g : Turn) (p : g ≡ turn_for r 0)
      (w : Swept eps0 (change_for r) g h media tab poles e m (g.t.n * g.s.n) e' m') where
    pub electric_is : e' ≡ electric_after eps0 r h media tab (delta_p r poles) m e
    unfolding electric_after
    electric_is = field_is r 0 previous_of previous_less e m e' m' F G K (each_of g p w) (w.len_x ∙ le) _ field_same

    pub psi_is : m' ≡ psi_after half_e r h tab m
    unfolding psi_after
    psi_is = memories_are r 0 previous_of previous_less e m e' m' F G K (each_of g p w) (w.len_m ∙ lm) _ _ first_same second_same
