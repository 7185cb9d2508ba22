-- What a store is after some of it was filled. Definitions only.
use Rattle.std.specs.Prelude.{ℕ, ◌+◌, ◌≤◌, ◌<◌, ◌≡◌, List, length, get_or, Float}
use Rattle.std.specs.Float.{nan}
use Rattle.root.specs.Rounded.{◌⊖◌}
use Rattle.fdtd.specs.declared.rows.Scratch.{Scratch}

-- from lo + a up to lo + z new holds f a, f (a + 1), .. f (z - 1), and everywhere else it is as old
pub record Span (f : ℕ → Float) (old : List Float) (lo a z : ℕ) (new : List Float) : Type 0 where
  pub len : length new ≡ length old
  pub under : (q : ℕ) → q < lo + a → get_or new q nan ≡ get_or old q nan
  pub at : (i : ℕ) → a ≤ i → i < z → get_or new (lo + i) nan ≡ f i
  pub over : (q : ℕ) → lo + z ≤ q → get_or new q nan ≡ get_or old q nan

-- the same in two places, at lo and above it at hi
pub record Two (f g : ℕ → Float) (old : List Float) (lo hi a z : ℕ) (new : List Float) : Type 0 where
  pub len : length new ≡ length old
  pub under : (q : ℕ) → q < lo + a → get_or new q nan ≡ get_or old q nan
  pub first : (i : ℕ) → a ≤ i → i < z → get_or new (lo + i) nan ≡ f i
  pub mid : (q : ℕ) → lo + z ≤ q → q < hi + a → get_or new q nan ≡ get_or old q nan
  pub second : (i : ℕ) → a ≤ i → i < z → get_or new (hi + i) nan ≡ g i
  pub over : (q : ℕ) → hi + z ≤ q → get_or new q nan ≡ get_or old q nan

-- the derivatives f and g of the cells from a up to z, and the curl, their difference
pub record Trio (f g : ℕ → Float) (old : Scratch) (a z : ℕ) (new : Scratch) : Type 0 where
  pub one : Span f old.first 0 a z new.first
  pub two : Span g old.second 0 a z new.second
  pub three : Span (λ i. f i ⊖ g i) old.curl 0 a z new.curl
