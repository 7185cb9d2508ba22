-- What the two loops over the auxiliary line cite: a span of its places that gets new numbers. Definitions only.
use Rattle.std.specs.Prelude.{◌≡◌, List, ℕ, ◌*◌, ◌≤◌, ◌<◌, length, get_or, Float}
use Rattle.std.specs.Float.{nan}

-- t is s with f q at each place q from a on and below e
pub record Spanned (f : ℕ → Float) (a e : ℕ) (s t : List Float) : Type 0 where
  pub same : length t ≡ length s
  pub inside : (q : ℕ) → a ≤ q → q < e → get_or t q nan ≡ f q
  pub below : (q : ℕ) → q < a → get_or t q nan ≡ get_or s q nan
  pub above : (q : ℕ) → e ≤ q → get_or t q nan ≡ get_or s q nan

-- what every code over the line may lean on
pub record Sized (n : ℕ) (line : List Float) : Type 0 where
  pub low : 49 ≤ n
  pub high : n ≤ 1000
  pub long : length line ≡ 2 * n
