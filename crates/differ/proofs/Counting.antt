-- One place more is compared; and what it means that none is apart.
use mathlib.Core.Path.{◌≡◌, refl, sym, ◌∙◌, subst}
use mathlib.Core.Bool.{Bool, true, false, not, cond}
use mathlib.Core.Logic.{⊎_elim}
use Prim.Native.Nat.{ℕ, zero, suc, ◌+◌, ◌≤◌, ◌<◌}
use native.Mathlib.Nat.{eq-or-lt_of_le, le_of_suc-le-suc}
use native.Mathlib.Numerals.{add-one}
use native.Mathlib.Omega.{arith}
use borrow.Author.Tests.{eqb-true}
use lib.Dec.{eqb}
use mir.Val.{bool_byte}
use Rattle.differ.specs.Apart.{unlike, apart, together}

pub apart_more : (f g : ℕ → ℕ) (i : ℕ) {n m a b : ℕ} → n ≡ apart i f g → a ≡ f i → b ≡ g i → m ≡ unlike a b → n + m ≡ apart (i + 1) f g
unfolding apart
apart_more f g i p q r s = rw add-one (cc)

-- as code tells it
pub told : (a b : ℕ) {m : ℕ} → m ≡ bool_byte (not (eqb a b)) → (m ≤ 1) × (m ≡ unlike a b)
unfolding unlike
told a b e = let c = counted (eqb a b) in (rw e c.0, e ∙ c.1)
  where
    counted : (t : Bool) → (bool_byte (not t) ≤ 1) × (bool_byte (not t) ≡ cond t 0 1)
    counted true = (omega arith, refl)
    counted false = (omega arith, refl)

alike : (a b : ℕ) → unlike a b ≡ 0 → a ≡ b
unfolding unlike
alike a b h = go (eqb a b) refl h
  where
    go : (t : Bool) → eqb a b ≡ t → ◌≡◌ {A = ℕ} (cond t 0 1) 0 → a ≡ b
    go true e h = eqb-true a b e
    go false e h = omega arith

-- where none is apart, every number is the same
pub none_apart : (f g : ℕ → ℕ) (n : ℕ) → apart n f g ≡ 0 → (i : ℕ) → i < n → f i ≡ g i
unfolding apart
none_apart f g zero h i l = omega arith
none_apart f g (suc n) h i l =
    ⊎_elim (λ e. subst (λ (k : ℕ). f k ≡ g k) (sym e) (alike (f n) (g n) (omega arith))) (λ m. none_apart f g n (omega arith) i m)
    (eq-or-lt_of_le (le_of_suc-le-suc l))

pub none_together : (a b : ℕ) → together a b ≡ 0 → (a ≡ 0) × (b ≡ 0)
none_together a b h = (omega arith, omega arith)
