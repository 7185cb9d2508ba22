-- Laws on tests: the parts of a conjunction, a first fault, the two ways past a refusal. Assumes nothing.
use Prim.Native.Nat.{ℕ, zero, suc}
use native.Mathlib.Omega.{arith}
use mathlib.Core.Bool.{Bool, true, false, ◌&&◌}
use mathlib.Core.Path.{◌≡◌, refl, sym, ◌∙◌}
use Rattle.grid.specs.Fault.{first}
use Rattle.grid.specs.Stores.{or_else}

pub and_left : (a b : Bool) → (a && b) ≡ true → a ≡ true
and_left true b e = refl
and_left false b e = e

pub and_right : (a b : Bool) → (a && b) ≡ true → b ≡ true
and_right true b e = e
and_right false b e = cc

-- what a call answered, r, is a test a of the definition, and a branch on r was taken or not
pub and_yes : {a b r : Bool} → r ≡ a → r ≡ true → b ≡ (a && b)
and_yes {a} {b} p q = rw (sym p ∙ q)

pub and_no : {a r : Bool} (b : Bool) → r ≡ a → r ≡ false → false ≡ (a && b)
and_no {a} b p q = rw (sym p ∙ q)

-- the same of a branch on `!r`
pub unless : {a r : Bool} → r ≡ a → r ≡ false → a ≡ false
unless p q = sym p ∙ q

pub met : {a r : Bool} → r ≡ a → r ≡ true → a ≡ true
met p q = sym p ∙ q

-- a first fault that is none: the test passed, and no later one is at fault
pub first_none : (a : Bool) (n later : ℕ) → first a (suc n) later ≡ 0 → (a ≡ true) × (later ≡ 0)
first_none true n later e = (refl, e)
first_none false n later e = absurd (let z : ⊥ = omega arith in z)

pub or_none : (n m : ℕ) → or_else n m ≡ 0 → (n ≡ 0) × (m ≡ 0)
or_none zero m e = (refl, e)
or_none (suc n) m e = absurd (let z : ⊥ = omega arith in z)

-- f is the fault n of a definition, and the code went on or not
pub or_stays : (f n m : ℕ) → f ≡ n → (f ≡ 0 → ⊥) → f ≡ or_else n m
or_stays f zero m e h = absurd (h e)
or_stays f (suc n) m e h = e

pub or_goes : (f n m x : ℕ) → f ≡ n → f ≡ 0 → x ≡ m → x ≡ or_else n m
or_goes f zero m x e h q = q
or_goes f (suc n) m x e h q = absurd (let z : ⊥ = omega arith in z)
