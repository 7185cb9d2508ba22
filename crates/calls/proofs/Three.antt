-- Three numbers written over a list of three, and the answer of a pole's coefficients, refused or not. Assumes nothing.
use Prim.Native.Nat.{ℕ, zero, suc}
use native.Mathlib.Omega.{arith}
use mathlib.Core.Path.{◌≡◌, refl}
use mathlib.Core.Bool.{cond}
use mathlib.Core.List.{List, [], ◌∷◌}
use borrow.Author.Tests.{ne_eqb}
use lib.Dec.{eqb}
use lib.ListN.{length, set}
use lib.Ieee.{Float}
use Rattle.std.proofs.Common.{Result, IsErr}
use Rattle.refusals.specs.declared.Refusal.{Refusal}
use Rattle.refusals.specs.Refusals.{code}
use Rattle.refusals.proofs.Numbers.{some}
use Rattle.calls.specs.Blocks.{readout}

pub written : (l : List Float) (a b c : Float) → length l ≡ 3 → set (set (set l 0 a) 1 b) 2 c ≡ a ∷ b ∷ c ∷ []
written [] a b c e = absurd (omega arith)
written (x ∷ []) a b c e = absurd (omega arith)
written (x ∷ y ∷ []) a b c e = absurd (omega arith)
written (x ∷ y ∷ z ∷ []) a b c e = refl
written (x ∷ y ∷ z ∷ w ∷ l) a b c e = absurd (omega arith)

pub refused : {A : Type 0} (x : Result A Refusal) (three out : List Float) {n : ℕ} → IsErr x → code x ≡ n → readout (code x) out ≡ readout n (cond (eqb n 0) three out)
refused x three out {n = zero} p e = absurd (some x p e)
refused x three out {n = suc n} p e = rw (e, ne_eqb (suc n) 0 (λ z. let w : ⊥ = omega arith in w))
