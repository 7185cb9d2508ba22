-- The squareRoot operation of IEEE 754-2019, clause 5.4.1, on doubles.
-- A finite double x is the fraction num x / den x of whole numbers, so every statement below is one about whole numbers.
use Rattle.std.specs.Prelude.{◌≡◌, ℕ, zero, suc, ◌+◌, ◌*◌, ◌/◌, ◌^◌, ◌<◌, Bool, true, false, cond, T, leb, Float}
use Rattle.std.specs.Float.{nan, inf, fin, binary64}
use Rattle.std.specs.Float.Ieee.{fits, lt, size, round}
use Rattle.std.specs.Float.Ieee.Positive.{num, den, positive}

-- y is a finite double, and not negative
abbrev pub number : Float → Bool
number nan = false
number (inf s) = false
number (fin true m e) = false
number (fin false m e) = fits binary64 (fin false m e)

-- the midpoint (r + y) / 2 as the fraction mid / wide
abbrev pub mid : Float → Float → ℕ
mid r y = num r * den y + num y * den r

abbrev pub wide : Float → Float → ℕ
wide r y = 2 * (den r * den y)

-- x < ((r + y) / 2)² and x > ((r + y) / 2)², with the denominators multiplied out
abbrev pub Under : Float → Float → Float → Type 0
Under x r y = num x * (wide r y * wide r y) < mid r y * mid r y * den x

abbrev pub Over : Float → Float → Float → Type 0
Over x r y = mid r y * mid r y * den x < num x * (wide r y * wide r y)

-- For a positive x, subnormal or not: r is the double nearest the root of x. The root lies below the midpoint of r with every larger double and above
-- the midpoint of r with every smaller one. A root is never itself a midpoint, so there is no tie, and both are strict.
-- That the midpoints with r's two neighbours suffice is proved (`judged_nearest`, `nearest_judged`, proofs/Neighbours.antt).
pub record NearestRoot (x r : Float) : Type 0 where
  pub held : T (fits binary64 r)
  pub above_zero : T (positive r)
  pub below_larger : (y : Float) → T (number y) → T (lt r y) → Under x r y
  pub above_smaller : (y : Float) → T (number y) → T (lt y r) → Over x r y

-- r is the square root of x, for every x: a zero keeps its sign, a negative number has none
abbrev pub IsRoot : Float → Float → Type 0
IsRoot nan r = r ≡ nan
IsRoot (inf true) r = r ≡ nan
IsRoot (inf false) r = r ≡ inf false
IsRoot (fin s zero e) r = r ≡ fin s zero e
IsRoot (fin true (suc m) e) r = r ≡ nan
IsRoot (fin false (suc m) e) r = NearestRoot (fin false (suc m) e) r

-- ---- the same root as a value to compute with

-- from q, the root of n / 4 cut to a whole number, to that of n: one binary digit more
unfoldable pub next_digit : ℕ → ℕ → ℕ
next_digit n q = cond (leb ((2 * q + 1) * (2 * q + 1)) n) (2 * q + 1) (2 * q)

-- the root of an n below 4 ^ d, cut to a whole number
unfoldable pub cut_root : ℕ → ℕ → ℕ
unfolding next_digit
cut_root zero n = 0
cut_root (suc d) n = next_digit n (cut_root d (n / 4))

-- A double is a whole number of units of 2 ^ -2148, so the root of that number counts units of 2 ^ -1074. Half a unit stands for what
-- was cut off: rounding only asks on which side of a midpoint the root lies, and here the midpoints are whole numbers of units.
unfoldable pub rounded_root : Float → Float
unfolding cut_root size round
rounded_root x = let n = num x * 2 ^ 2148 / den x in round binary64 false (2 * cut_root (size n) n + 1) (2 ^ 1075)

unfoldable pub root_of : Float → Float
unfolding rounded_root
root_of nan = nan
root_of (inf true) = nan
root_of (inf false) = inf false
root_of (fin s zero e) = fin s zero e
root_of (fin true (suc m) e) = nan
root_of (fin false (suc m) e) = rounded_root (fin false (suc m) e)

-- What `root` answers: the root by its definition, and the value that formulas name. `unique` (proofs/Unique.antt) shows that no
-- other r is a root of x, and `root_right` (proofs/Computed.antt) that root_of x is one.
pub record Rooted (x r : Float) : Type 0 where
  pub right : IsRoot x r
  pub is : r ≡ root_of x
