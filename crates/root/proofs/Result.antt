-- From a positive double with 53 digits and the whole root of its radicand to the double nearest its root.
use mathlib.Core.Path.{◌≡◌, refl, sym, ap, ◌∙◌, subst}
use Prim.Native.Nat.{ℕ, zero, suc, ◌+◌, ◌-◌, ◌*◌, ◌/◌, ◌%◌, ◌^◌, ◌≤◌, ◌<◌}
use native.Mathlib.Nat.{le_trans, lt_of_not-le, mul_assoc, mul_right_comm, mul-le-mul, mul-pos}
use native.Mathlib.Decide.{dec_le}
use native.Mathlib.Omega.{arith}
use mathlib.Core.Bool.{false}
use lib.Dec.{T}
use lib.Pow.{pow-add, pow_pos}
use lib.Ieee.{Float, nan, inf, fin, binary64, up, down, of_bits}
use lib.Ieee.Bits.{of_bits-fits}
use lib.Ieee.Exact.{HasValue}
use lib.Ieee.Positive.{positive, den_pos, positive_of_value}
use Rattle.root.specs.Root.{NearestRoot}
use Rattle.root.specs.Inner.Steps.{Floor, Scale}
use Rattle.root.proofs.Squares.{rounds}
use Rattle.root.proofs.Nearest.{nearest}
use Rattle.root.proofs.Fields.{made}

-- ---- the radicand, m with its exponent made even: at most 54 digits
twos : (p : ℕ) → p < 2 → 1 + p ≡ 2 ^ p
twos zero h = refl
twos (suc zero) h = refl
twos (suc (suc p)) h = absurd (no p h)
  where
    no : (p : ℕ) → suc (suc p) < 2 → ⊥
    no p h = omega arith

least : (m p : ℕ) → m ≤ m * (1 + p)
least m p = le_trans (below m) (mul-le-mul (same m) (one p))
  where
    below : (m : ℕ) → m ≤ m * 1
    below m = omega arith

    same : (m : ℕ) → m ≤ m
    same m = omega arith

    one : (p : ℕ) → 1 ≤ 1 + p
    one p = omega arith

most : (m p : ℕ) → p < 2 → m < 2 ^ 53 → m * (1 + p) ≤ 2 ^ 54 - 2
most m p h l =
    let a : m ≤ 2 ^ 53 - 1 = omega arith in
    let b : 1 + p ≤ 2 = omega arith in
    mul-le-mul a b

module _ (n m k : ℕ) (s : Scale n m k) where
  parity : k % 2 < 2
  parity = omega arith

  pub radicand_low : 2 ^ 52 ≤ m * (1 + k % 2)
  radicand_low = le_trans s.low (least m (k % 2))

  pub radicand_high : m * (1 + k % 2) ≤ 2 ^ 54 - 2
  radicand_high = most m (k % 2) parity s.high

  exponents : k % 2 + (54 + (k / 2 + 484 + (k / 2 + 484))) ≡ k + 1022
  exponents = omega arith

  -- in units of 2 ^ -2148, the square of 2 ^ -1074
  pub radicand_is : m * (1 + k % 2) * 2 ^ 54 * (2 ^ (k / 2 + 484) * 2 ^ (k / 2 + 484)) ≡ n * 2 ^ 1074
  radicand_is =
      ap (λ (z : ℕ). m * z * 2 ^ 54 * (2 ^ (k / 2 + 484) * 2 ^ (k / 2 + 484))) (twos (k % 2) parity)
      ∙ ap (λ (z : ℕ). m * 2 ^ (k % 2) * 2 ^ 54 * z) (sym (pow-add 2 (k / 2 + 484) (k / 2 + 484)))
      ∙ mul_assoc (m * 2 ^ (k % 2)) (2 ^ 54) (2 ^ (k / 2 + 484 + (k / 2 + 484)))
      ∙ ap (λ (z : ℕ). m * 2 ^ (k % 2) * z) (sym (pow-add 2 54 (k / 2 + 484 + (k / 2 + 484))))
      ∙ mul_assoc m (2 ^ (k % 2)) (2 ^ (54 + (k / 2 + 484 + (k / 2 + 484))))
      ∙ ap (λ (z : ℕ). m * z) (sym (pow-add 2 (k % 2) (54 + (k / 2 + 484 + (k / 2 + 484)))))
      ∙ ap (λ (z : ℕ). m * 2 ^ z) exponents
      ∙ ap (λ (z : ℕ). m * z) (pow-add 2 k 1022)
      ∙ sym (mul_assoc m (2 ^ k) (2 ^ 1022))
      ∙ ap (λ (z : ℕ). z * 2 ^ 1022) s.same
      ∙ mul_assoc n (2 ^ 52) (2 ^ 1022)

-- ---- its root has 54 digits, and does not round up to 2 ^ 53
pub root_low : (A f : ℕ) → Floor (A * 2 ^ 54) f → 2 ^ 52 ≤ A → 2 ^ 53 ≤ f
root_low A f h l = go (dec_le (2 ^ 53) f)
  where
    go : Dec (2 ^ 53 ≤ f) → 2 ^ 53 ≤ f
    go (yes u) = u
    go (no u) =
        let v : f < 2 ^ 53 = lt_of_not-le u in
        let w : f + 1 ≤ 2 ^ 53 = omega arith in
        let t : (f + 1) * (f + 1) ≤ 2 ^ 106 = mul-le-mul w w in
        let z : A * 2 ^ 54 < (f + 1) * (f + 1) = h.high in
        absurd (clash A ((f + 1) * (f + 1)) l z t)
      where
        clash : (a b : ℕ) → 2 ^ 52 ≤ a → a * 2 ^ 54 < b → b ≤ 2 ^ 106 → ⊥
        clash a b x y z = omega arith

pub root_high : (A f : ℕ) → Floor (A * 2 ^ 54) f → A ≤ 2 ^ 54 - 2 → f < 2 ^ 54 - 1
root_high A f h l = go (dec_le (2 ^ 54 - 1) f)
  where
    go : Dec (2 ^ 54 - 1 ≤ f) → f < 2 ^ 54 - 1
    go (no u) = lt_of_not-le u
    go (yes u) = absurd (clash A (f * f) l h.low (mul-le-mul u u))
      where
        clash : (a b : ℕ) → a ≤ 2 ^ 54 - 2 → b ≤ a * 2 ^ 54 → (2 ^ 54 - 1) * (2 ^ 54 - 1) ≤ b → ⊥
        clash a b x y z = omega arith

-- a / U is a * U / (U * U)
pub widen : (x : Float) (a U N : ℕ) → N ≡ a * U → HasValue x false a U → HasValue x false N (U * U)
widen nan a U N e v = v
widen (inf s) a U N e v = v
widen (fin s m c) a U N e v = (v.0, sym (mul_assoc (m * up c) U U) ∙ ap (λ (z : ℕ). z * U) v.1 ∙ mul_right_comm a (down c) U ∙ ap (λ (z : ℕ). z * down c) (sym e))

-- ---- the result
module _ (x : Float) (n m k f : ℕ) (v : HasValue x false n (2 ^ 1074)) (s : Scale n m k) (h : Floor (m * (1 + k % 2) * 2 ^ 54) f) where
  f_low : 2 ^ 53 ≤ f
  f_low = root_low (m * (1 + k % 2)) f h (radicand_low n m k s)

  f_high : f < 2 ^ 54 - 1
  f_high = root_high (m * (1 + k % 2)) f h (radicand_high n m k s)

  q_low : 2 ^ 52 ≤ (f + 1) / 2
  q_low = let l = f_low in omega arith

  q_high : (f + 1) / 2 < 2 ^ 53
  q_high = let l = f_high in omega arith

  pub result_value : HasValue (of_bits binary64 ((k / 2 + 485) * 2 ^ 52 + (f + 1) / 2)) false ((f + 1) / 2 * 2 ^ (k / 2 + 485)) (2 ^ 1074)
  result_value = let u : k / 2 + 485 < 2046 = omega (arith, s.small) in made (k / 2 + 485) ((f + 1) / 2) u q_low q_high

  pub result_positive : T (positive (of_bits binary64 ((k / 2 + 485) * 2 ^ 52 + (f + 1) / 2)))
  result_positive =
      let u : 0 < (f + 1) / 2 = omega (arith, q_low) in
      positive_of_value (of_bits binary64 ((k / 2 + 485) * 2 ^ 52 + (f + 1) / 2)) ((f + 1) / 2 * 2 ^ (k / 2 + 485)) (2 ^ 1074) result_value (mul-pos u (pow_pos (k / 2 + 485)))

  pub result_nearest : NearestRoot x (of_bits binary64 ((k / 2 + 485) * 2 ^ 52 + (f + 1) / 2))
  result_nearest =
      let r = of_bits binary64 ((k / 2 + 485) * 2 ^ 52 + (f + 1) / 2) in
      let R = m * (1 + k % 2) * 2 ^ 54 in
      let j = k / 2 + 484 in
      let e : k / 2 + 485 ≡ suc (k / 2 + 484) = omega arith in
      let even : R % 2 ≡ 0 = evens (m * (1 + k % 2)) in
      let w : 2 ^ 52 * 2 ≤ f = f_low in
      nearest x r R ((f + 1) / 2) j (den_pos x)
      (widen x n (2 ^ 1074) (R * (2 ^ j * 2 ^ j)) (radicand_is n m k s) v)
      (subst (λ (z : ℕ). HasValue r false ((f + 1) / 2 * 2 ^ z) (2 ^ 1074)) e result_value)
      (rounds (2 ^ 52) R f h even w)
      q_low result_positive (of_bits-fits binary64 ((k / 2 + 485) * 2 ^ 52 + (f + 1) / 2))
    where
      evens : (a : ℕ) → a * 2 ^ 54 % 2 ≡ 0
      evens a = omega arith
