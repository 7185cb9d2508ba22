-- The stores while the rows of a grid are moved on one after the other, and at the end. Definitions only.
use Rattle.std.specs.Prelude.{ℕ, ◌+◌, ◌*◌, List, get_or, Float}
use Rattle.std.specs.Float.{nan}
use Rattle.fdtd.specs.declared.Axis.{Axis}
use Rattle.fdtd.specs.declared.turns.Turn.{Turn}
use Rattle.fdtd.specs.Axes.{next_of}
use Rattle.fdtd.specs.Yee.{factor}
use Rattle.fdtd.specs.Inner.Turns.{row_at, NewNumbers, Done, on_r, on_s, on_t}
use Rattle.magnetic.specs.Inner.Row.{field_h, first_h, second_h}

-- the cells after the cell i of the row (s, t)
abbrev pub up_r : Turn → (s t i : ℕ) → ℕ
up_r g s t i = row_at g s t + next_of i g.r.n

abbrev pub up_s : Turn → (s t i : ℕ) → ℕ
up_s g s t i = row_at g (next_of s g.s.n) t + i

abbrev pub up_t : Turn → (s t i : ℕ) → ℕ
up_t g s t i = row_at g s (next_of t g.t.n) + i

-- what is made of the component along A
abbrev pub made_of : (mu0 : Float) → Turn → (A B C : Axis) → (onB onC upB up_c : (s t i : ℕ) → ℕ) → (e media tab h m : List Float) → NewNumbers
made_of mu0 g A B C onB onC upB up_c e media tab h m =
    record {
      field = λ s t i.
          field_h A B C g.count e tab m (row_at g s t + i) (onB s t i) (onC s t i) (upB s t i) (up_c s t i)
          (factor g.dt mu0 (get_or media (g.count + (row_at g s t + i)) nan)) h;
      first = λ s t i. first_h A B C g.count e tab m (row_at g s t + i) (onB s t i) (onC s t i) (upB s t i) (up_c s t i);
      second = λ s t i. second_h A B C g.count e tab m (row_at g s t + i) (onB s t i) (onC s t i) (upB s t i) (up_c s t i);
    }

-- the first r rows are moved on from the stores h₀ and m₀
abbrev pub Swept : (mu0 : Float) → Turn → (e media tab h₀ m₀ : List Float) → (r : ℕ) → (h m : List Float) → Type 0
Swept mu0 g e media tab h₀ m₀ r h m =
    Done g (made_of mu0 g g.r g.s g.t on_s on_t (up_s g) (up_t g) e media tab h₀ m₀)
    (made_of mu0 g g.s g.t g.r on_t on_r (up_t g) (up_r g) e media tab h₀ m₀)
    (made_of mu0 g g.t g.r g.s on_r on_s (up_r g) (up_s g) e media tab h₀ m₀) h₀ m₀ r h m

-- one row more
abbrev pub Carried : (mu0 : Float) → Turn → (e media tab : List Float) → (s t : ℕ) → (h m h' m' : List Float) → Type 0
Carried mu0 g e media tab s t h m h' m' =
    (h₀ m₀ : List Float) → Swept mu0 g e media tab h₀ m₀ (s + t * g.s.n) h m → Swept mu0 g e media tab h₀ m₀ (s + 1 + t * g.s.n) h' m'
