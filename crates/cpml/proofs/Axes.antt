-- The test of an axis as the code makes it, without wrapping, against `axis_active`. Assumes nothing.
use Prim.Native.Nat.{ℕ, ◌+◌, ◌-◌, ◌*◌, ◌/◌, ◌≤◌, ◌<◌}
use native.Mathlib.Omega.{arith}
use mathlib.Core.Path.{◌≡◌, refl, sym, ap}
use mathlib.Core.Bool.{Bool, true, false, not, ◌&&◌, and-false}
use lib.Dec.{leb, eqb}
use borrow.Author.Tests.{leb-true, leb-false, le-leb, lt-leb}
use Rattle.cpml.specs.Absorber.{axis_active}

pub never_active : (asked : Bool) (t n : ℕ) → n < 2 → false ≡ axis_active asked t n
unfolding axis_active
never_active asked t n h = rw (lt-leb (2 * t + 2) n (omega arith)) (sym (and-false (asked && not (eqb t 0))))

half_test : (t n : ℕ) (b : Bool) → 2 ≤ n → leb (2 * t + 2) n ≡ b → leb t ((n - 2) / 2) ≡ b
half_test t n true h e = le-leb t ((n - 2) / 2) (omega (arith, leb-true (2 * t + 2) n e))
half_test t n false h e = lt-leb t ((n - 2) / 2) (omega (arith, leb-false (2 * t + 2) n e))

pub active_is : (asked : Bool) (t n : ℕ) → 2 ≤ n → (asked && not (eqb t 0) && leb t ((n - 2) / 2)) ≡ axis_active asked t n
unfolding axis_active
active_is asked t n h = ap (λ (b : Bool). asked && not (eqb t 0) && b) (half_test t n (leb (2 * t + 2) n) h refl)
