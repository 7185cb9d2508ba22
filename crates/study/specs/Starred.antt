-- The starred sample studies of document 01: each entry says what is computed and what the document says that it is, and the theorem below them is
-- that antt computes each to just that, bit for bit.
use Rattle.std.specs.Prelude.{◌≡◌, refl, ℕ, Bool, true, cond, List, [], ◌∷◌, Float}
use Rattle.std.proofs.Common.{sym, ◌∙◌}
use Rattle.std.specs.Float.{binary64}
use Rattle.std.specs.Float.Ieee.{round, of_bits, of_int, add, sub, mul, div, neg, eq, lt}
use Rattle.root.specs.Rounded.{◌⊘◌, zero_f, half_f, one_f, two_f, four_f}
use Rattle.root.specs.Root.{root_of}
use Rattle.root.specs.Constants.{eps0}
use Rattle.dispersion.specs.declared.AdeCoeffs.{AdeCoeffs}
use Rattle.dispersion.specs.declared.Pole.TheVariants.{Lorentz, Drude, Debye}
use Rattle.dispersion.specs.Ade.{second_order, first_order, ade_coeffs}
use Rattle.cells.specs.Cells.{joined, row}
use Rattle.opening.specs.Opening.{open_record}
use Rattle.boundary.specs.declared.LossyAbsorber.{LossyAbsorber}
use Rattle.boundary.specs.Lossy.{power_in, power, wall_sigma, strongest, clamped, graded_sigma, lossy_sigma}
use Rattle.cpml.specs.Absorber.{axis_active}
use Rattle.cpml.specs.Memory.{advanced}

pub record Sample : Type 0 where
  pub computed : List Float
  pub stated : List Float

abbrev sample : List Float → List Float → Sample
sample c s = record { computed = c; stated = s }

-- -0.0, -1.0
abbrev minus_zero : Float
minus_zero = of_bits binary64 0x8000000000000000

abbrev minus_one : Float
minus_one = of_bits binary64 0xBFF0000000000000

abbrev triple : AdeCoeffs → List Float
triple c = c.a1 ∷ c.a2 ∷ c.a3 ∷ []

-- 0.25, 8.0
abbrev quarter_f : Float
quarter_f = of_bits binary64 0x3FD0000000000000

abbrev eight_f : Float
eight_f = of_bits binary64 0x4020000000000000

-- 1.0 for an active axis, +0.0 for an inactive one
abbrev flag : Bool → Float
flag on = cond on one_f zero_f

-- sigma along x of a study of n by 1 by 1 cells after the lossy edge was set
abbrev lossy_along : ℕ → LossyAbsorber → List Float
lossy_along n a =
    row n (λ i. lossy_sigma (open_record n 1 1 0 (record { dx = one_f; dy = one_f; dz = one_f; dt = one_f }) 0) a i 0 0)

-- Drude's a1 and a2 are stated for every plasma frequency ωp, and a memory that is kept for every b, memory and derivative
unfoldable pub starred : (ωp b memory deriv : Float) → List Sample
starred ωp b memory deriv =
    -- root 4.0 is 2.0
    sample (root_of four_f ∷ []) (two_f ∷ [])
    -- root -0.0 is -0.0
    ∷ sample (root_of minus_zero ∷ []) (minus_zero ∷ [])
    -- root 2.0 is 3FF6A09E667F3BCD
    ∷ sample (root_of two_f ∷ []) (of_bits binary64 0x3FF6A09E667F3BCD ∷ [])
    -- Debye delta_eps 2, tau 2, dt 1: 0.5, 0.0, EPS0
    ∷ sample (triple (ade_coeffs eps0 one_f (Debye two_f two_f))) (half_f ∷ zero_f ∷ eps0 ∷ [])
    -- Lorentz 1, 1, gamma 2, dt 1: 0.5, -0.0, EPS0/2
    ∷ sample (triple (ade_coeffs eps0 one_f (Lorentz one_f one_f two_f))) (half_f ∷ minus_zero ∷ (eps0 ⊘ two_f) ∷ [])
    -- Drude gamma 0, dt 1: a1 2.0, a2 -1.0
    ∷ sample ((ade_coeffs eps0 one_f (Drude ωp zero_f)).a1 ∷ (ade_coeffs eps0 one_f (Drude ωp zero_f)).a2 ∷ []) (two_f ∷ minus_one ∷ [])
    -- b 0.5, c 0.25, memory 2, derivative 4: 2.0
    ∷ sample ((advanced half_f quarter_f two_f four_f).answer ∷ []) (two_f ∷ [])
    -- c -0.0: answer +0.0, memory kept
    ∷ sample ((advanced b minus_zero memory deriv).answer ∷ (advanced b minus_zero memory deriv).memory ∷ []) (zero_f ∷ memory ∷ [])
    -- thickness 10: n 21 inactive, n 22 active
    ∷ sample (flag (axis_active true 10 21) ∷ flag (axis_active true 10 22) ∷ []) (zero_f ∷ one_f ∷ [])
    -- lossy on x only, n 4, thickness 9, order 1, sigma_max 8: 8 4 4 8
    ∷ sample (lossy_along 4 (record { thickness = 9; order = 1; sigma_max = eight_f })) (eight_f ∷ four_f ∷ four_f ∷ eight_f ∷ [])
    -- n 5, thickness 2, order 2: 8 2 0 2 8
    ∷ sample (lossy_along 5 (record { thickness = 2; order = 2; sigma_max = eight_f })) (eight_f ∷ two_f ∷ zero_f ∷ two_f ∷ eight_f ∷ [])
    ∷ []

-- each entry is what is stated
abbrev pub AllHold : List Sample → Type 0
AllHold [] = Unit
AllHold (s ∷ l) = (s.computed ≡ s.stated) × AllHold l

-- both sides computed to the same bits
via : {a b : List Float} (m : List Float) → a ≡ m → b ≡ m → a ≡ b
via m p q = p ∙ sym q

pub starred_hold : (ωp b memory deriv : Float) → AllHold (starred ωp b memory deriv)
unfolding starred root_of eps0 ade_coeffs second_order first_order advanced axis_active lossy_sigma graded_sigma clamped strongest wall_sigma power power_in joined round of_bits of_int add sub mul div neg eq lt
starred_hold ωp b memory deriv = (
  refl,
  (
    refl,
    (
      refl,
      (
        refl,
        (
          via (half_f ∷ minus_zero ∷ of_bits binary64 0x3D937876F148112E ∷ []) refl refl,
          (
            refl,
            (refl, (refl, (refl, (refl, (refl, tt))))),
          ),
        ),
      ),
    ),
  ),
)
