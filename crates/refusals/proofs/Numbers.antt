-- A refusal's number is not 0, so that 0 says that there is none. Assumes nothing.
use Rattle.std.proofs.Common.{ℕ, ◌≡◌, Result, Ok, Err, IsErr, IfOk, sym}
use Prim.Native.Nat.{◌≤◌}
use native.Mathlib.Omega.{arith}
use mathlib.Core.Path.{refl}
use Rattle.refusals.specs.declared.Refusal.{Refusal}
use Rattle.refusals.specs.declared.Refusal.TheVariants.{BadSize, BadSpacing, BadStudy, BadStore, Full, TooManyPoles, NoSuchMaterial, StaleMaterial, BadRegion, BadOrder, SpentClock, NoRoom, Short, BadMark, BadRecord, Trailing, NoSuchPlane, BadPole}
use Rattle.refusals.specs.Refusals.{number, code, value_or}

pub numbered : (f : Refusal) → 1 ≤ number f
numbered BadSize = omega arith
numbered BadSpacing = omega arith
numbered BadStudy = omega arith
numbered BadStore = omega arith
numbered Full = omega arith
numbered TooManyPoles = omega arith
numbered NoSuchMaterial = omega arith
numbered StaleMaterial = omega arith
numbered BadRegion = omega arith
numbered BadOrder = omega arith
numbered SpentClock = omega arith
numbered NoRoom = omega arith
numbered Short = omega arith
numbered BadMark = omega arith
numbered BadRecord = omega arith
numbered Trailing = omega arith
numbered NoSuchPlane = omega arith
numbered BadPole = omega arith

-- so that a refusal's code is not
pub some : {A : Type 0} (x : Result A Refusal) → IsErr x → code x ≡ 0 → ⊥
some (Ok x) h e = absurd (let z : ⊥ = cc in z)
some (Err f) h e = let low = numbered f in omega (arith, low)

-- and its answer is what stands in for one
pub stands_in : {A : Type 0} (x : Result A Refusal) → IsErr x → (d : A) → value_or d x ≡ d
stands_in (Ok x) h d = absurd (let z : ⊥ = cc in z)
stands_in (Err f) h d = refl

-- what holds where a fault is 0 holds where it is told and there is an answer
pub if_ok : {A : Type 0} (x : Result A Refusal) (n : ℕ) {P : Type 0} → code x ≡ n → (n ≡ 0 → P) → IfOk x (λ _. P)
if_ok (Ok x) n e h = h (sym e)
if_ok (Err f) n e h = tt
