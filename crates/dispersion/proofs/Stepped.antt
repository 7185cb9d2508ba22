-- What a pole's fault tells. Assumes nothing.
use Prim.Native.Nat.{ℕ}
use native.Mathlib.Omega.{arith}
use mathlib.Core.Bool.{Bool, true, false, cond}
use mathlib.Core.Path.{◌≡◌, refl}
use Rattle.std.specs.Prelude.{Float}
use Rattle.dispersion.specs.declared.Pole.{Pole}
use Rattle.dispersion.specs.Ade.{bad_pole, pole_steps, pole_fault}

-- whether it is 0 tells whether the pole can be stepped
tells : (t : Bool) {n : ℕ} → n ≡ cond t 0 bad_pole → (n ≡ 0 → t ≡ true) × ((n ≡ 0 → ⊥) → t ≡ false)
tells true e = (λ z. refl, λ h. absurd (h e))
tells false e = (λ z. absurd (let c : ⊥ = omega arith in c), λ h. refl)

pub steps : (eps0 dt : Float) (p : Pole) {n : ℕ} → n ≡ pole_fault eps0 dt p → n ≡ 0 → pole_steps eps0 dt p ≡ true
unfolding pole_fault
steps eps0 dt p e = (tells (pole_steps eps0 dt p) e).0

pub stays : (eps0 dt : Float) (p : Pole) {n : ℕ} → n ≡ pole_fault eps0 dt p → (n ≡ 0 → ⊥) → pole_steps eps0 dt p ≡ false
unfolding pole_fault
stays eps0 dt p e = (tells (pole_steps eps0 dt p) e).1
