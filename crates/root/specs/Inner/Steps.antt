-- What the functions inside `root` promise each other.
use Rattle.std.specs.Prelude.{◌≡◌, ℕ, zero, suc, ◌+◌, ◌*◌, ◌^◌, ◌≤◌, ◌<◌}

-- q is the root of n, cut to a whole number
pub record Floor (n q : ℕ) : Type 0 where
  pub low : q * q ≤ n
  pub high : n < (q + 1) * (q + 1)

-- a positive double in units of 2 ^ -1074, from its exponent field and its 52 digits
abbrev pub units_of : ℕ → ℕ → ℕ
units_of zero t = t
units_of (suc g) t = (2 ^ 52 + t) * 2 ^ g

-- n * 2 ^ 52 as m * 2 ^ k with an m of 53 digits
pub record Scale (n m k : ℕ) : Type 0 where
  pub low : 2 ^ 52 ≤ m
  pub high : m < 2 ^ 53
  pub small : k ≤ 2098
  pub same : m * 2 ^ k ≡ n * 2 ^ 52
