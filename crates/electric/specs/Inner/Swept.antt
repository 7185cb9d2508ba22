-- The stores while the rows of a grid are moved on one after the other, and at the end. Definitions only.
use Rattle.std.specs.Prelude.{ℕ, ◌+◌, ◌*◌, not, List, eqb, get_or, Float}
use Rattle.std.specs.Float.{nan}
use Rattle.grid.specs.declared.Record.{Record}
use Rattle.grid.specs.Stores.{cells}
use Rattle.fdtd.specs.declared.Axis.{Axis}
use Rattle.fdtd.specs.declared.turns.Turn.{Turn}
use Rattle.fdtd.specs.Axes.{previous_of}
use Rattle.fdtd.specs.Yee.{ca, cb}
use Rattle.fdtd.specs.Inner.Turns.{row_at, NewNumbers, Done, on_r, on_s, on_t}
use Rattle.electric.specs.declared.row.Change.{Change}
use Rattle.electric.specs.Inner.Row.{dp_of, field_e, first_e, second_e}

-- where dp stands in a study's pole store, and whether there is any
abbrev pub change_for : Record → Change
change_for r = record { on = not (eqb r.built_count 0); at = 6 * r.pole_slots * cells r; dt = r.spacings.dt }

-- the cells before the cell i of the row (s, t)
abbrev pub down_r : Turn → (s t i : ℕ) → ℕ
down_r g s t i = row_at g s t + previous_of i g.r.n

abbrev pub down_s : Turn → (s t i : ℕ) → ℕ
down_s g s t i = row_at g (previous_of s g.s.n) t + i

abbrev pub down_t : Turn → (s t i : ℕ) → ℕ
down_t g s t i = row_at g s (previous_of t g.t.n) + i

-- the factors of a cell
abbrev pub ca_at : (eps0 : Float) → Turn → (media : List Float) → (cell : ℕ) → Float
ca_at eps0 g media cell = ca eps0 g.dt (get_or media cell nan) (get_or media (2 * g.count + cell) nan)

abbrev pub cb_at : (eps0 : Float) → Turn → (media : List Float) → (cell : ℕ) → Float
cb_at eps0 g media cell = cb eps0 g.dt (get_or media cell nan) (get_or media (2 * g.count + cell) nan)

-- what is made of the component along A
abbrev pub made_of :
    (eps0 : Float) → Change → Turn → (A B C : Axis) → (onB onC downB down_c : (s t i : ℕ) → ℕ) → (h media tab poles e m : List Float) → NewNumbers
made_of eps0 w g A B C onB onC downB down_c h media tab poles e m =
    record {
      field = λ s t i.
          field_e A B C g.count h tab m (row_at g s t + i) (onB s t i) (onC s t i) (downB s t i) (down_c s t i)
          (ca_at eps0 g media (row_at g s t + i)) (cb_at eps0 g media (row_at g s t + i)) w.dt (dp_of w poles (A.at + (row_at g s t + i))) e;
      first = λ s t i. first_e A B C g.count h tab m (row_at g s t + i) (onB s t i) (onC s t i) (downB s t i) (down_c s t i);
      second = λ s t i. second_e A B C g.count h tab m (row_at g s t + i) (onB s t i) (onC s t i) (downB s t i) (down_c s t i);
    }

-- the first r rows are moved on from the stores e₀ and m₀
abbrev pub Swept : (eps0 : Float) → Change → Turn → (h media tab poles e₀ m₀ : List Float) → (r : ℕ) → (e m : List Float) → Type 0
Swept eps0 w g h media tab poles e₀ m₀ r e m =
    Done g (made_of eps0 w g g.r g.s g.t on_s on_t (down_s g) (down_t g) h media tab poles e₀ m₀)
    (made_of eps0 w g g.s g.t g.r on_t on_r (down_t g) (down_r g) h media tab poles e₀ m₀)
    (made_of eps0 w g g.t g.r g.s on_r on_s (down_r g) (down_s g) h media tab poles e₀ m₀) e₀ m₀ r e m

-- one row more
abbrev pub Carried : (eps0 : Float) → Change → Turn → (h media tab poles : List Float) → (s t : ℕ) → (e m e' m' : List Float) → Type 0
Carried eps0 w g h media tab poles s t e m e' m' =
    (e₀ m₀ : List Float) → Swept eps0 w g h media tab poles e₀ m₀ (s + t * g.s.n) e m
    → Swept eps0 w g h media tab poles e₀ m₀ (s + 1 + t * g.s.n) e' m'
