-- What one row of the magnetic field takes its new numbers from: by its sides, as the passes know it, and by the cells' places. Definitions only.
use Rattle.std.specs.Prelude.{ℕ, ◌+◌, ◌-◌, ◌≡◌, true, false, cond, List, get_or, Float}
use Rattle.std.specs.Float.{nan}
use Rattle.root.specs.Rounded.{◌⊖◌, ◌⊗◌}
use Rattle.fdtd.specs.declared.Axis.{Axis}
use Rattle.fdtd.specs.declared.rows.Differences.{Differences}
use Rattle.fdtd.specs.declared.rows.Side.{Side}
use Rattle.fdtd.specs.declared.turns.Run.{Run}
use Rattle.fdtd.specs.Axes.{next_of}
use Rattle.fdtd.specs.Yee.{slope, moves_h, updated_h}
use Rattle.fdtd.specs.Inner.Cell.{curl_on, first_on, second_on}
use Rattle.fdtd.specs.Inner.Rows.{side_layered}
use Rattle.fdtd.specs.Inner.Span.{Span, Two}
use Rattle.fdtd.specs.Inner.Turns.{Lull}

-- from a row's cells to their neighbours on a side
abbrev pub ahead_of : Side → Differences
ahead_of s = record { lo = s.own; hi = cond s.along (s.own + 1) s.other; d = s.d }

-- for the cell i of a row of n: where its neighbour on a side stands, and its derivative there
unfoldable pub next_at : Side → (n i : ℕ) → ℕ
next_at s n i = cond s.along (s.own + next_of i n) (s.other + i)

unfoldable pub slope_of : Side → (e : List Float) → (n i : ℕ) → Float
slope_of s e n i = slope s.d (get_or e (s.own + i) nan) (get_or e (next_at s n i) nan)

-- its new number: its old one stands at q + i of h, its factor at i of fac
unfoldable pub field_of : (b c : Side) (e tab mem fac h : List Float) (n q i : ℕ) → Float
field_of b c e tab mem fac h n q i =
    get_or h (q + i) nan
    ⊖ get_or fac i nan
    ⊗ side_layered true c tab mem i (slope_of c e n i) (side_layered false b tab mem i (slope_of b e n i) (slope_of b e n i ⊖ slope_of c e n i))

-- by its places onB and onC, and the cells upB and up_c after it there
module _ (A B C : Axis) (count : ℕ) (e tab mem : List Float) (cell onB onC upB up_c : ℕ) where
  unfoldable pub field_h : (factor : Float) → (h : List Float) → Float
  field_h f h = updated_h (moves_h B C onB onC) f (curl_on A B C count e tab mem cell onB onC cell upB cell up_c) (get_or h (A.at + cell) nan)

  abbrev pub first_h : Float
  first_h = first_on A B C count e tab mem cell onB onC cell upB cell up_c (moves_h B C onB onC)

  abbrev pub second_h : Float
  second_h = second_on A B C count e tab mem cell onB onC cell upB cell up_c (moves_h B C onB onC)

-- the row of n cells that begins at q is moved on, with the factors fac
module _ (A B C : Axis) (count : ℕ) (e tab mem fac h : List Float) (q n : ℕ) (onB onC upB up_c : ℕ → ℕ) where
  abbrev pub Moved : (h' mem' : List Float) → Type 0
  Moved h' mem' =
      Span (λ i. field_h A B C count e tab mem (q + i) (onB i) (onC i) (upB i) (up_c i) (get_or fac i nan) h) h (A.at + q) 0 n h'
      × Two (λ i. first_h A B C count e tab mem (q + i) (onB i) (onC i) (upB i) (up_c i)) (λ i. second_h A B C count e tab mem (q + i) (onB i) (onC i) (upB i) (up_c i))
      mem (A.mem + q) (A.mem + count + q) 0 n mem'

-- the cells from the first up to end have a neighbour along w, and those of the run a quiet layer
pub record NextRun (w : Axis) (tab : List Float) (run : Run) : Type 0 where
  pub lull : Lull w tab 0 run.end run
  pub ends : run.end ≡ cond w.wraps w.n (w.n - 1)
