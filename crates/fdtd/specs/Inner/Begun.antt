-- A half step that goes cell by cell: what one cell stores, and the stores while the cells of a row are moved on. Definitions only.
use Rattle.std.specs.Prelude.{ℕ, ◌+◌, ◌*◌, ◌≤◌, ◌<◌, ◌≡◌, Bool, List, length, get_or, Float}
use Rattle.std.specs.Float.{nan}
use Rattle.fdtd.specs.declared.Axis.{Axis}
use Rattle.fdtd.specs.declared.Coef.{Coef}
use Rattle.fdtd.specs.declared.single.Shared.{Shared}
use Rattle.fdtd.specs.declared.turns.Turn.{Turn}
use Rattle.fdtd.specs.Yee.{coef_at}
use Rattle.fdtd.specs.Inner.Turns.{row_at, NewNumbers}

-- new holds v at p, and is as old everywhere else
pub record Lone (v : Float) (old : List Float) (p : ℕ) (new : List Float) : Type 0 where
  pub len : length new ≡ length old
  pub here : get_or new p nan ≡ v
  pub under : (q : ℕ) → q < p → get_or new q nan ≡ get_or old q nan
  pub over : (q : ℕ) → p < q → get_or new q nan ≡ get_or old q nan

-- v at p and w above it at r
pub record Both (v w : Float) (old : List Float) (p r : ℕ) (new : List Float) : Type 0 where
  pub len : length new ≡ length old
  pub first : get_or new p nan ≡ v
  pub second : get_or new r nan ≡ w
  pub under : (q : ℕ) → q < p → get_or new q nan ≡ get_or old q nan
  pub mid : (q : ℕ) → p < q → q < r → get_or new q nan ≡ get_or old q nan
  pub over : (q : ℕ) → r < q → get_or new q nan ≡ get_or old q nan

-- a cell's number along A and its two memories
abbrev pub Stored : (A : Axis) → (count cell : ℕ) → (u v w : Float) → (x m x' m' : List Float) → Type 0
Stored A count cell u v w x m x' m' = Lone u x (A.at + cell) x' × Both v w m (A.mem + cell) (A.mem + count + cell) m'

-- how a half step makes the number along A of a cell, and that number's two memories: by its neighbours nB and nC, whether it moves, and the layers' numbers
pub record Rule : Type 0 where
  pub field : (A B C : Axis) → (count : ℕ) → (x mem : List Float) → (cell nB nC : ℕ) → (moves : Bool) → (kb kc : Coef) → Float
  pub first : (A B C : Axis) → (count : ℕ) → (mem : List Float) → (cell nB nC : ℕ) → (moves : Bool) → (kb kc : Coef) → Float
  pub second : (A B C : Axis) → (count : ℕ) → (mem : List Float) → (cell nB nC : ℕ) → (moves : Bool) → (kb kc : Coef) → Float

-- those of the number along r stored
abbrev pub StoredBy : Rule → Turn → (cell ns nt : ℕ) → (moves : Bool) → (ks kt : Coef) → (x mem x' mem' : List Float) → Type 0
StoredBy v g cell ns nt moves ks kt x mem x' mem' =
    Stored g.r g.count cell (v.field g.r g.s g.t g.count x mem cell ns nt moves ks kt)
    (v.first g.r g.s g.t g.count mem cell ns nt moves ks kt) (v.second g.r g.s g.t g.count mem cell ns nt moves ks kt) x mem x' mem'

-- the number along r of a cell with the neighbours ns and nt: it, its memories and what its derivatives are taken of are there
pub record Near (g : Turn) (source mem moved : List Float) (cell ns nt : ℕ) : Type 0 where
  pub own : cell < g.count
  pub ons : ns < g.count
  pub ont : nt < g.count
  pub es : g.s.at + g.count ≤ length source
  pub et : g.t.at + g.count ≤ length source
  pub hr : g.r.at + g.count ≤ length moved
  pub mr : g.r.mem + g.count + g.count ≤ length mem

-- what the cells of the row (s, t) share, beside the rows (bs, t) and (s, bt)
abbrev pub shared_of : Turn → (tab : List Float) → (s t bs bt : ℕ) → (gos got : Bool) → Shared
shared_of g tab s t bs bt gos got =
    record { q = row_at g s t; bs = row_at g bs t; bt = row_at g s bt; gos = gos; got = got; ks = coef_at g.s tab s; kt = coef_at g.t tab t }

pub record Known (g : Turn) (tab : List Float) (s t bs bt : ℕ) (gos got : Bool) (w : Shared) : Type 0 where
  pub is : w ≡ shared_of g tab s t bs bt gos got
  pub own : w.q + g.r.n ≤ g.count
  pub ons : w.bs + g.r.n ≤ g.count
  pub ont : w.bt + g.r.n ≤ g.count

-- as Part of Turns.antt, with the row (j, k) under way: the rows before it and its first i cells hold f
pub record Begun (n s count : ℕ) (f : ℕ → ℕ → ℕ → Float) (lo : ℕ) (old : List Float) (j k i : ℕ) (new : List Float) : Type 0 where
  pub rows : (j' k' c : ℕ) → c < n → j' < s → j' + k' * s < j + k * s → get_or new (lo + (j' + k' * s) * n + c) nan ≡ f j' k' c
  pub row : (c : ℕ) → c < i → get_or new (lo + (j + k * s) * n + c) nan ≡ f j k c
  pub rest : (q : ℕ) → lo + (j + k * s) * n + i ≤ q → q < lo + count → get_or new q nan ≡ get_or old q nan

-- and so as Comp and Done
pub record Going (g : Turn) (A : Axis) (w : NewNumbers) (x₀ m₀ : List Float) (s t i : ℕ) (x m : List Float) : Type 0 where
  pub field : Begun g.r.n g.s.n g.count w.field A.at x₀ s t i x
  pub first : Begun g.r.n g.s.n g.count w.first A.mem m₀ s t i m
  pub second : Begun g.r.n g.s.n g.count w.second (A.mem + g.count) m₀ s t i m

pub record Doing (g : Turn) (R S T : NewNumbers) (x₀ m₀ : List Float) (s t i : ℕ) (x m : List Float) : Type 0 where
  pub len_x : length x ≡ length x₀
  pub len_m : length m ≡ length m₀
  pub along_r : Going g g.r R x₀ m₀ s t i x m
  pub along_s : Going g g.s S x₀ m₀ s t i x m
  pub along_t : Going g g.t T x₀ m₀ s t i x m
