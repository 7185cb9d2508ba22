-- The constants of vacuum: the Rust's, rounded in the order in which its grid computes them, and those of document 02's S-7.
use Rattle.std.specs.Prelude.{◌≡◌, refl, ℕ, ◌^◌, false, cond, eqb, Float}
use Rattle.std.specs.Float.{binary64}
use Rattle.std.specs.Float.Ieee.{round, of_bits, mul, div}
use Rattle.root.specs.Rounded.{◌⊗◌, ◌⊘◌, one_f, four_f}
use Rattle.root.specs.Root.{root_of}
use Rattle.root.specs.declared.vacuum.Vacuum.{Vacuum}

-- vacuum permittivity in F/m: the double nearest 8.854187817e-12
unfoldable pub eps0 : Float
eps0 = round binary64 false 8854187817 (10 ^ 21)

-- the double nearest π, which twenty decimals tell, and the one nearest 1e-7
unfoldable pub pi : Float
pi = round binary64 false 314159265358979323846 (10 ^ 20)

unfoldable pub ten_minus7 : Float
ten_minus7 = round binary64 false 1 (10 ^ 7)

-- vacuum permeability in H/m: (4.0 π) 1e-7
unfoldable pub mu0 : Float
mu0 = four_f ⊗ pi ⊗ ten_minus7

-- the speed of light in m/s: 1 / √(ε₀ μ₀)
unfoldable pub c0_of : Float → Float → Float
c0_of eps mu = one_f ⊘ root_of (eps ⊗ mu)

unfoldable pub c0 : Float
c0 = c0_of eps0 mu0

-- ---- their bits, which is how a proof meets the constants of the code

pub eps0_bits : eps0 ≡ of_bits binary64 0x3DA37876F148112E
unfolding eps0 round of_bits
eps0_bits = refl

pub mu0_bits : mu0 ≡ of_bits binary64 0x3EB515370F99F6CB
unfolding mu0 pi ten_minus7 mul of_bits
mu0_bits = refl

pub c0_bits : c0 ≡ of_bits binary64 0x41B1DE784A02B051
unfolding c0 c0_of eps0 mu0 pi ten_minus7 mul div root_of of_bits
c0_bits = refl

-- ---- CODATA 2018, which came with the SI of 2019 (document 02, S-7). c0 is the stated value and not 1 / √(ε₀ μ₀), which differs in the last digits.

-- the double nearest 8.8541878128e-12
unfoldable pub eps02019 : Float
eps02019 = round binary64 false 88541878128 (10 ^ 22)

-- the double nearest 1.25663706212e-6
unfoldable pub mu02019 : Float
mu02019 = round binary64 false 125663706212 (10 ^ 17)

-- 299792458, which is a double
unfoldable pub c02019 : Float
c02019 = round binary64 false 299792458 1

pub eps02019_bits : eps02019 ≡ of_bits binary64 0x3DA37876F1206634
unfolding eps02019 round of_bits
eps02019_bits = refl

pub mu02019_bits : mu02019 ≡ of_bits binary64 0x3EB515370FCB41E4
unfolding mu02019 round of_bits
mu02019_bits = refl

pub c02019_bits : c02019 ≡ of_bits binary64 0x41B1DE784A000000
unfolding c02019 round of_bits
c02019_bits = refl

-- ---- by the record's field: 0 the Rust's set, any other the set of 2019 (a record in which it is neither 0 nor 1 is refused)
abbrev pub vacuum_old : Vacuum
vacuum_old = record { eps0 = eps0; mu0 = mu0; c0 = c0 }

abbrev pub vacuum2019 : Vacuum
vacuum2019 = record { eps0 = eps02019; mu0 = mu02019; c0 = c02019 }

unfoldable pub vacuum_of : ℕ → Vacuum
vacuum_of constants = cond (eqb constants 0) vacuum_old vacuum2019
