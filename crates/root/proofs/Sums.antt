-- A sum hangs on its terms alone. Assumes nothing.
use Prim.Native.Nat.{ℕ, zero, suc, ◌<◌}
use native.Mathlib.Omega.{arith}
use mathlib.Core.Path.{◌≡◌, refl}
use lib.Ieee.{Float}
use Rattle.root.specs.Rounded.{summed}

pub summed_same : (n : ℕ) (f g : ℕ → Float) → ((i : ℕ) → i < n → f i ≡ g i) → summed n f ≡ summed n g
unfolding summed
summed_same zero f g h = refl
summed_same (suc n) f g h = rw (summed_same n f g (λ i l. h i (omega arith)), h n (omega arith))
