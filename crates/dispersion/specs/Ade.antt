-- The auxiliary differential equation (ADE) method for dispersive media (Taflove and Hagness): a pole's polarization P is stepped by
--   P(n+1) = a1 P(n) + a2 P(n-1) + a3 E(n),
-- each coefficient rounded in the Rust's order. Definitions only.
use Rattle.std.specs.Prelude.{ℕ, Bool, cond, ◌&&◌, Float}
use Rattle.std.specs.Float.Ieee.{neg}
use Rattle.std.specs.Float.{float_is_finite}
use Rattle.refusals.specs.declared.Refusal.TheVariants.{BadPole}
use Rattle.refusals.specs.Refusals.{number}
use Rattle.root.specs.Rounded.{◌⊕◌, ◌⊖◌, ◌⊗◌, ◌⊘◌, zero_f, one_f, two_f}
use Rattle.dispersion.specs.declared.AdeCoeffs.{AdeCoeffs}
use Rattle.dispersion.specs.declared.Pole.{Pole}
use Rattle.dispersion.specs.declared.Pole.TheVariants.{Lorentz, Drude, Debye}

-- P'' + γ P' + ω0² P = ε0 A E, centred in time. The sign of a2 is taken before the division.
unfoldable pub second_order : (eps0 A ω0 γ dt : Float) → AdeCoeffs
second_order eps0 A ω0 γ dt =
    let denom = one_f ⊕ γ ⊗ dt ⊘ two_f in
    record {
      a1 = (two_f ⊖ ω0 ⊗ ω0 ⊗ dt ⊗ dt) ⊘ denom;
      a2 = neg (one_f ⊖ γ ⊗ dt ⊘ two_f) ⊘ denom;
      a3 = eps0 ⊗ A ⊗ dt ⊗ dt ⊘ denom;
    }

-- P' + P/τ = ε0 Δε E/τ, forward in time
unfoldable pub first_order : (eps0 Δε τ dt : Float) → AdeCoeffs
first_order eps0 Δε τ dt = record { a1 = one_f ⊖ dt ⊘ τ; a2 = zero_f; a3 = eps0 ⊗ Δε ⊗ dt ⊘ τ }

-- Lorentz: A = Δε ω0². Drude: A = ωp², ω0 = 0. Debye: first order.
unfoldable pub ade_coeffs : (eps0 dt : Float) → Pole → AdeCoeffs
ade_coeffs eps0 dt (Lorentz Δε ω0 γ) = second_order eps0 (Δε ⊗ ω0 ⊗ ω0) ω0 γ dt
ade_coeffs eps0 dt (Drude ωp γ) = second_order eps0 (ωp ⊗ ωp) zero_f γ dt
ade_coeffs eps0 dt (Debye Δε τ) = first_order eps0 Δε τ dt

-- ---- 19 BadPole: a pole that cannot be stepped (document 02, S-2), since a1, a2 or a3 is infinite or NaN
abbrev pub bad_pole : ℕ
bad_pole = number BadPole

unfoldable pub pole_steps : (eps0 dt : Float) → Pole → Bool
pole_steps eps0 dt p = let k = ade_coeffs eps0 dt p in float_is_finite k.a1 && float_is_finite k.a2 && float_is_finite k.a3

unfoldable pub pole_fault : (eps0 dt : Float) → Pole → ℕ
pole_fault eps0 dt p = cond (pole_steps eps0 dt p) 0 bad_pole
