-- The grid as rows along one axis (the structs of turns.rt): where a row stands, how its sides are handed over, what its stores need. Definitions only.
use Rattle.std.specs.Prelude.{ℕ, ◌+◌, ◌*◌, ◌≤◌, ◌<◌, ◌≡◌, ◌⊎◌, Bool, true, false, not, cond, List, eqb, length, get_or, Float}
use Rattle.std.specs.Float.{nan}
use Rattle.std.specs.Float.Ieee.{eq}
use Rattle.root.specs.Rounded.{zero_f}
use Rattle.grid.specs.declared.Record.{Record}
use Rattle.grid.specs.Stores.{cells}
use Rattle.fdtd.specs.declared.Axis.{Axis}
use Rattle.fdtd.specs.declared.rows.Side.{Side}
use Rattle.fdtd.specs.declared.turns.Turn.{Turn}
use Rattle.fdtd.specs.declared.turns.Spot.{Spot}
use Rattle.fdtd.specs.declared.turns.Run.{Run}
use Rattle.fdtd.specs.Axes.{axis_x, axis_y, axis_z}
use Rattle.fdtd.specs.Yee.{coef_at}

-- axis a, of n cells of size d, its tables from tab on, in a grid of count cells
abbrev pub axis_by : Record → (a n : ℕ) → (d : Float) → (count tab : ℕ) → Axis
axis_by r a n d count tab =
    record { n = n; d = d; wraps = get_or r.periodic a false; on = get_or r.active a false; at = a * count; mem = 2 * a * count; tab = tab }

-- in rows along x, y or z
abbrev pub turn_x : Record → (from : ℕ) → Turn
turn_x r from = record { r = axis_x r from; s = axis_y r from; t = axis_z r from; dt = r.spacings.dt; count = cells r }

abbrev pub turn_y : Record → (from : ℕ) → Turn
turn_y r from = record { r = axis_y r from; s = axis_z r from; t = axis_x r from; dt = r.spacings.dt; count = cells r }

abbrev pub turn_z : Record → (from : ℕ) → Turn
turn_z r from = record { r = axis_z r from; s = axis_x r from; t = axis_y r from; dt = r.spacings.dt; count = cells r }

abbrev pub turn_for : Record → (from : ℕ) → Turn
turn_for r from = cond (eqb r.nx 1) (cond (eqb r.ny 1) (turn_z r from) (turn_y r from)) (turn_x r from)

-- named from the next axis round
abbrev pub round : Turn → Turn
round g = record { r = g.s; s = g.t; t = g.r; dt = g.dt; count = g.count }

-- the first cell of the row (s, t)
abbrev pub row_at : Turn → (s t : ℕ) → ℕ
row_at g s t = (s + t * g.s.n) * g.r.n

-- the places of the cell i of the row (s, t)
abbrev pub on_r : (s t i : ℕ) → ℕ
on_r s t i = i

abbrev pub on_s : (s t i : ℕ) → ℕ
on_s s t i = s

abbrev pub on_t : (s t i : ℕ) → ℕ
on_t s t i = t

-- the row (s, t), and beside it the rows (bs, t) and (s, bt)
abbrev pub spot_of : Turn → (s t bs bt : ℕ) → Spot
spot_of g s t bs bt = record { s = s; t = t; q = row_at g s t; bs = row_at g bs t; bt = row_at g s bt }

pub record AtSpot (g : Turn) (s t bs bt : ℕ) (p : Spot) : Type 0 where
  pub is : p ≡ spot_of g s t bs bt
  pub ins : p.s < g.s.n
  pub int : p.t < g.t.n
  pub own : p.q + g.r.n ≤ g.count
  pub ons : p.bs + g.r.n ≤ g.count
  pub ont : p.bt + g.r.n ≤ g.count

-- a side whose axis lies across the row, at the place p of it, for the cells from a up to z
abbrev pub side_across : Axis → (tables : List Float) → (p a z own other mem : ℕ) → Side
side_across w tab p a z own other mem =
    record {
      along = false;
      on = w.on;
      d = w.d;
      k = coef_at w tab p;
      tab = 0;
      len = 0;
      lo = cond (eq (get_or tab (w.tab + w.n + w.n + p) nan) zero_f) a z;
      hi = z;
      own = own;
      other = other;
      mem = mem;
    }

-- and one along it
abbrev pub side_along : Axis → Run → (own mem : ℕ) → Side
side_along w run own mem =
    record {
      along = true;
      on = w.on;
      d = w.d;
      k = record { kinv = zero_f; b = zero_f; c = zero_f };
      tab = w.tab;
      len = w.n;
      lo = run.lo;
      hi = run.hi;
      own = own;
      other = own;
      mem = mem;
    }

-- from a up to r, which is at most z, none of the numbers from t on is 0; or, where zero is false, all are
pub record FirstPlace (tab : List Float) (t a z : ℕ) (zero : Bool) (r : ℕ) : Type 0 where
  pub from : a ≤ r
  pub upto : r ≤ z
  pub all : (i : ℕ) → a ≤ i → i < r → eq (get_or tab (t + i) nan) zero_f ≡ not zero

-- the cells of w from a up to z, and a run among them where the layer is quiet
pub record Lull (w : Axis) (tab : List Float) (a z : ℕ) (run : Run) : Type 0 where
  pub starts : run.start ≡ a
  pub ends : run.end ≡ z
  pub from : a ≤ run.lo
  pub order : run.lo ≤ run.hi
  pub upto : run.hi ≤ z
  pub quiet : (i : ℕ) → run.lo ≤ i → i < run.hi → eq (get_or tab (w.tab + w.n + w.n + i) nan) zero_f ≡ true

-- two components and their memories lie apart
abbrev pub Apart : (count : ℕ) → Axis → Axis → Type 0
Apart count A B = ((A.at + count ≤ B.at) × (A.mem + count + count ≤ B.mem)) ⊎ ((B.at + count ≤ A.at) × (B.mem + count + count ≤ A.mem))

-- the sizes, by which a row lies in the grid
pub record Rows (g : Turn) : Type 0 where
  pub whole : g.count ≡ g.t.n * g.s.n * g.r.n
  pub few : g.count ≤ 1048576
  pub sn : g.s.n ≤ 512
  pub tn : g.t.n ≤ 512

-- those, and where the components lie
pub record Laid (g : Turn) : Type 0 where
  pub rows : Rows g
  pub rs : Apart g.count g.r g.s
  pub rt : Apart g.count g.r g.t
  pub st : Apart g.count g.s g.t

-- a grid and its stores: source is the field that the derivatives are taken of, moved the one that the half step moves
pub record Fit (g : Turn) (source tab mem moved : List Float) : Type 0 where
  pub laid : Laid g
  pub some : 1 ≤ g.r.n
  pub small : g.r.n ≤ 512
  pub er : g.r.at + g.count ≤ length source
  pub es : g.s.at + g.count ≤ length source
  pub et : g.t.at + g.count ≤ length source
  pub hr : g.r.at + g.count ≤ length moved
  pub hs : g.s.at + g.count ≤ length moved
  pub ht : g.t.at + g.count ≤ length moved
  pub mr : g.r.mem + g.count + g.count ≤ length mem
  pub ms : g.s.mem + g.count + g.count ≤ length mem
  pub mt : g.t.mem + g.count + g.count ≤ length mem
  pub tr : g.r.tab + g.r.n + g.r.n + g.r.n ≤ length tab
  pub ts : g.s.tab + g.s.n + g.s.n + g.s.n ≤ length tab
  pub tt : g.t.tab + g.t.n + g.t.n + g.t.n ≤ length tab

-- the component at lo of a store, rows of n, s rows a plane, count numbers: its first r rows hold f, and its other rows are as they were. Of the rest of
-- the store it says nothing, so that a store of three components has three of these, and six memories have six
pub record Part (n s count : ℕ) (f : ℕ → ℕ → ℕ → Float) (lo : ℕ) (old : List Float) (r : ℕ) (new : List Float) : Type 0 where
  pub at : (j k i : ℕ) → i < n → j < s → j + k * s < r → get_or new (lo + (j + k * s) * n + i) nan ≡ f j k i
  pub rest : (q : ℕ) → lo + r * n ≤ q → q < lo + count → get_or new q nan ≡ get_or old q nan

-- what a half step makes of the cell i of the row (s, t): its number along one axis, and that number's two memories
pub record NewNumbers : Type 0 where
  pub field : (s t i : ℕ) → Float
  pub first : (s t i : ℕ) → Float
  pub second : (s t i : ℕ) → Float

-- the numbers along A: in the first r rows they and their memories are as made, in the others as in the stores x₀ and m₀
pub record Comp (g : Turn) (A : Axis) (w : NewNumbers) (x₀ m₀ : List Float) (r : ℕ) (x m : List Float) : Type 0 where
  pub field : Part g.r.n g.s.n g.count w.field A.at x₀ r x
  pub first : Part g.r.n g.s.n g.count w.first A.mem m₀ r m
  pub second : Part g.r.n g.s.n g.count w.second (A.mem + g.count) m₀ r m

-- all three
pub record Done (g : Turn) (R S T : NewNumbers) (x₀ m₀ : List Float) (r : ℕ) (x m : List Float) : Type 0 where
  pub len_x : length x ≡ length x₀
  pub len_m : length m ≡ length m₀
  pub along_r : Comp g g.r R x₀ m₀ r x m
  pub along_s : Comp g g.s S x₀ m₀ r x m
  pub along_t : Comp g g.t T x₀ m₀ r x m
