-- What one row of the electric field takes its new numbers from: by its sides, as the passes know it, and by the cells' places. Definitions only.
use Rattle.std.specs.Prelude.{ℕ, ◌+◌, ◌-◌, ◌≤◌, ◌≡◌, Bool, true, false, cond, List, eqb, length, get_or, Float}
use Rattle.std.specs.Float.{nan}
use Rattle.root.specs.Rounded.{◌⊖◌, zero_f}
use Rattle.cells.specs.Box.{within}
use Rattle.fdtd.specs.declared.Axis.{Axis}
use Rattle.fdtd.specs.declared.rows.Differences.{Differences}
use Rattle.fdtd.specs.declared.rows.Side.{Side}
use Rattle.fdtd.specs.declared.turns.Run.{Run}
use Rattle.fdtd.specs.declared.turns.Turn.{Turn}
use Rattle.fdtd.specs.Axes.{previous_of}
use Rattle.fdtd.specs.Yee.{slope, moves_e, updated_e}
use Rattle.fdtd.specs.Inner.Cell.{curl_on, first_on, second_on}
use Rattle.fdtd.specs.Inner.Rows.{side_layered}
use Rattle.fdtd.specs.Inner.Span.{Span, Two}
use Rattle.fdtd.specs.Inner.Turns.{Lull}
use Rattle.electric.specs.declared.row.Change.{Change}
use Rattle.electric.specs.declared.row.Factors.{Factors}

-- from the neighbours on a side of a row's cells from the second on to the cells
abbrev pub behind_of : Side → Differences
behind_of s = record { lo = cond s.along s.own (s.other + 1); hi = s.own + 1; d = s.d }

-- for the cell i of a row of n: where its neighbour on a side stands, and its derivative there
unfoldable pub before_at : Side → (n i : ℕ) → ℕ
before_at s n i = cond s.along (s.own + previous_of i n) (s.other + i)

unfoldable pub slope_of : Side → (h : List Float) → (n i : ℕ) → Float
slope_of s h n i = slope s.d (get_or h (before_at s n i) nan) (get_or h (s.own + i) nan)

-- dp of the number at i, and of the row that begins at q of the component at `at`
unfoldable pub dp_of : Change → (poles : List Float) → ℕ → Float
dp_of w poles i = cond w.on (get_or poles (w.at + i) nan) zero_f

abbrev pub change_at : Change → (at q : ℕ) → Change
change_at w at q = record { on = w.on; at = w.at + at + q; dt = w.dt }

-- the new number of the cell i, if it moves: its old one stands at q + i of e
unfoldable pub number_of : (moves : Bool) (w : Change) (f : Factors) (curl poles e : List Float) (q i : ℕ) → Float
number_of moves w f curl poles e q i =
    updated_e moves (get_or f.ca i nan) (get_or f.cb i nan) w.dt (dp_of w poles i) (get_or curl i nan) (get_or e (q + i) nan)

-- the same by the row's sides: the cells from a up to z move
unfoldable pub field_of : (b c : Side) (w : Change) (h tab mem : List Float) (f : Factors) (poles e : List Float) (n a z q i : ℕ) → Float
field_of b c w h tab mem f poles e n a z q i =
    updated_e (within a z i) (get_or f.ca i nan) (get_or f.cb i nan) w.dt (dp_of w poles i)
    (side_layered true c tab mem i (slope_of c h n i) (side_layered false b tab mem i (slope_of b h n i) (slope_of b h n i ⊖ slope_of c h n i)))
    (get_or e (q + i) nan)

-- by its places onB and onC, and the cells downB and down_c before it there
module _ (A B C : Axis) (count : ℕ) (h tab mem : List Float) (cell onB onC downB down_c : ℕ) where
  unfoldable pub field_e : (ca cb dt dp : Float) → (e : List Float) → Float
  field_e a b dt dp e =
      updated_e (moves_e B C onB onC) a b dt dp (curl_on A B C count h tab mem cell onB onC downB cell down_c cell) (get_or e (A.at + cell) nan)

  abbrev pub first_e : Float
  first_e = first_on A B C count h tab mem cell onB onC downB cell down_c cell (moves_e B C onB onC)

  abbrev pub second_e : Float
  second_e = second_on A B C count h tab mem cell onB onC downB cell down_c cell (moves_e B C onB onC)

-- the row of n cells that begins at q is moved on, with the factors f
module _ (A B C : Axis) (count : ℕ) (h tab mem : List Float) (f : Factors) (poles e : List Float) (w : Change) (q n : ℕ) (onB onC downB down_c : ℕ → ℕ) where
  abbrev pub Moved : (e' mem' : List Float) → Type 0
  Moved e' mem' =
      Span (λ i. field_e A B C count h tab mem (q + i) (onB i) (onC i) (downB i) (down_c i)
      (get_or f.ca i nan) (get_or f.cb i nan) w.dt (dp_of w poles (A.at + (q + i))) e) e (A.at + q) 0 n e'
      × Two (λ i. first_e A B C count h tab mem (q + i) (onB i) (onC i) (downB i) (down_c i)) (λ i. second_e A B C count h tab mem (q + i) (onB i) (onC i) (downB i) (down_c i))
      mem (A.mem + q) (A.mem + count + q) 0 n mem'

-- the cells of a row that lie on no wall of w: all where it wraps, else those between the first and the last
pub record OffWallRun (w : Axis) (tab : List Float) (run : Run) : Type 0 where
  pub lull : Lull w tab run.start run.end run
  pub starts : run.start ≡ cond w.wraps 0 1
  pub ends : run.end ≡ cond w.wraps w.n (cond (eqb w.n 1) 1 (w.n - 1))

-- dp of every number is there
pub record DpRoom (g : Turn) (w : Change) (poles : List Float) : Type 0 where
  pub r : w.at + g.r.at + g.count ≤ length poles
  pub s : w.at + g.s.at + g.count ≤ length poles
  pub t : w.at + g.t.at + g.count ≤ length poles
