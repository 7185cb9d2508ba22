-- f64 arithmetic as the Rust writes it: each operation rounds to the nearest double, ties to even (IEEE 754). ⊗ and ⊘ bind before ⊕ and ⊖, and all
-- group to the left, so a formula shows the order of its roundings. Definitions only.
use Rattle.std.specs.Prelude.{ℕ, zero, suc, Float}
use Rattle.std.specs.Float.{binary64}
use Rattle.std.specs.Float.Ieee.{add, sub, mul, div, of_bits}

infixl 6 ◌⊕◌
infixl 6 ◌⊖◌
infixl 7 ◌⊗◌
infixl 7 ◌⊘◌
abbrev pub ◌⊕◌ : Float → Float → Float
x ⊕ y = add binary64 x y

abbrev pub ◌⊖◌ : Float → Float → Float
x ⊖ y = sub binary64 x y

abbrev pub ◌⊗◌ : Float → Float → Float
x ⊗ y = mul binary64 x y

abbrev pub ◌⊘◌ : Float → Float → Float
x ⊘ y = div binary64 x y

-- +0.0, 0.5, 1.0, 2.0, 4.0
abbrev pub zero_f : Float
zero_f = of_bits binary64 0

abbrev pub half_f : Float
half_f = of_bits binary64 0x3FE0000000000000

abbrev pub one_f : Float
one_f = of_bits binary64 0x3FF0000000000000

abbrev pub two_f : Float
two_f = of_bits binary64 0x4000000000000000

abbrev pub four_f : Float
four_f = of_bits binary64 0x4010000000000000

-- ((+0.0 ⊕ f 0) ⊕ f 1) ⊕ .. ⊕ f (n - 1)
unfoldable pub summed : ℕ → (ℕ → Float) → Float
summed zero f = zero_f
summed (suc n) f = summed n f ⊕ f n
