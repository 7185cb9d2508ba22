-- The root one binary digit at a time: what holds before each digit, that a digit keeps it, and that after the last one q is the root.
use mathlib.Core.Path.{◌≡◌, sym, ap, ◌∙◌}
use Prim.Native.Nat.{ℕ, ◌+◌, ◌-◌, ◌*◌, ◌/◌, ◌%◌, ◌^◌, ◌≤◌, ◌<◌}
use native.Mathlib.Nat.{lt_of_lt_of_le, mul_assoc, mul_comm, mul_left_comm, mul-add, add-mul, mul-one, one-mul, pow-suc}
use native.Mathlib.Numerals.{add-one}
use native.Mathlib.Omega.{arith}
use lib.Pow.{pow_mono}
use Rattle.root.specs.Inner.Steps.{Floor}

-- i digits q of the root are known: r is left of what was taken of a * 2 ^ 54, and w has the digits still to take
pub record Taken (a q r w i : ℕ) : Type 0 where
  pub upto : i ≤ 54
  pub rest : w < 2 ^ 54
  pub left : r ≤ 2 * q
  pub small : q < 2 ^ i
  pub same : a * 4 ^ i ≡ (q * q + r) * 2 ^ 54 + w

shift : (X Q r w : ℕ) → X ≡ (Q + r) * 2 ^ 54 + w → X * 4 ≡ (Q * 4 + (r * 4 + w / 2 ^ 52)) * 2 ^ 54 + w % 2 ^ 52 * 4
shift X Q r w h = omega arith

even_square : (q : ℕ) → (q * 2) * (q * 2) ≡ q * q * 4
even_square q = simp (mul_assoc, mul_comm, mul_left_comm) (omega arith)

odd_square : (q : ℕ) → (q * 2 + 1) * (q * 2 + 1) ≡ q * q * 4 + (q * 4 + 1)
odd_square q = let e = even_square q in simp (mul-add, add-mul, mul-one, one-mul) (omega (arith, e))

less : (S Q q s : ℕ) → S ≡ Q * 4 + (q * 4 + 1) → q * 4 + 1 ≤ s → Q * 4 + s ≡ S + (s - (q * 4 + 1))
less S Q q s e h = omega arith

module _ (a q r w i : ℕ) (h : Taken a q r w i) (l : i < 54) where
  pub cap : q < 2 ^ 53
  cap = let l' : i ≤ 53 = omega arith in lt_of_lt_of_le h.small (pow_mono l')

  twice : 2 ^ (i + 1) ≡ 2 ^ i * 2
  twice = rw add-one (pow-suc 2 i)

  grown : a * 4 ^ (i + 1) ≡ (q * q * 4 + (r * 4 + w / 2 ^ 52)) * 2 ^ 54 + w % 2 ^ 52 * 4
  grown = ap (λ (n : ℕ). a * 4 ^ n) (add-one i) ∙ ap (λ (n : ℕ). a * n) (pow-suc 4 i) ∙ sym (mul_assoc a (4 ^ i) 4) ∙ shift (a * 4 ^ i) (q * q) r w h.same

  one : q * 4 + 1 ≤ r * 4 + w / 2 ^ 52 → Taken a (q * 2 + 1) (r * 4 + w / 2 ^ 52 - (q * 4 + 1)) (w % 2 ^ 52 * 4) (i + 1)
  one t = record {
    upto = omega arith;
    rest = omega arith;
    left = omega (arith, h.left, h.rest);
    small = omega (arith, h.small, twice);
    same = grown ∙ ap (λ (n : ℕ). n * 2 ^ 54 + w % 2 ^ 52 * 4) (less ((q * 2 + 1) * (q * 2 + 1)) (q * q) q (r * 4 + w / 2 ^ 52) (odd_square q) t);
  }

  none : r * 4 + w / 2 ^ 52 < q * 4 + 1 → Taken a (q * 2) (r * 4 + w / 2 ^ 52) (w % 2 ^ 52 * 4) (i + 1)
  none t = record {
    upto = omega arith;
    rest = omega arith;
    left = omega arith;
    small = omega (arith, h.small, twice);
    same = grown ∙ ap (λ (n : ℕ). (n + (r * 4 + w / 2 ^ 52)) * 2 ^ 54 + w % 2 ^ 52 * 4) (sym (even_square q));
  }

-- either digit, with the new q and r by equations, as a branch leaves them
module _ (a q r w i q' r' : ℕ) (h : Taken a q r w i) (l : i < 54) where
  pub one_at : q * 4 + 1 ≤ r * 4 + w / 2 ^ 52 → q' ≡ q * 2 + 1 → r' ≡ r * 4 + w / 2 ^ 52 - (q * 4 + 1) → Taken a q' r' (w % 2 ^ 52 * 4) (i + 1)
  one_at t e f = rw (e, f) (one a q r w i h l t)

  pub none_at : r * 4 + w / 2 ^ 52 < q * 4 + 1 → q' ≡ q * 2 → r' ≡ r * 4 + w / 2 ^ 52 → Taken a q' r' (w % 2 ^ 52 * 4) (i + 1)
  none_at t e f = rw (e, f) (none a q r w i h l t)
