-- At how many places two lists differ. Definitions only.
use Rattle.std.specs.Prelude.{ℕ, zero, suc, ◌+◌, min, cond, List, eqb, get_or, Float}
use Rattle.std.specs.Float.{nan, binary64}
use Rattle.std.specs.Float.Ieee.{to_bits}

-- 0 where two numbers are equal, 1 where they are not
unfoldable pub unlike : ℕ → ℕ → ℕ
unlike a b = cond (eqb a b) 0 1

-- at how many of the places below n the numbers f and g differ
unfoldable pub apart : (n : ℕ) → (f g : ℕ → ℕ) → ℕ
apart zero f g = 0
apart (suc n) f g = apart n f g + unlike (f n) (g n)

-- the number f of the element at a place, d's past the end
abbrev pub numbers : {A : Type 0} → (f : A → ℕ) (d : A) → List A → ℕ → ℕ
numbers f d l i = f (get_or l i d)

-- the pattern of the float at a place: 64 bits, the same for every NaN
abbrev pub pattern : List Float → ℕ → ℕ
pattern = numbers (to_bits binary64) nan

abbrev pub element : List ℕ → ℕ → ℕ
element = numbers (λ n. n) 0

-- two counts together, at the most where 64 bits do not hold their sum
abbrev pub together : ℕ → ℕ → ℕ
together a b = min (a + b) 0xFFFFFFFFFFFFFFFF
