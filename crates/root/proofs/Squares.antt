-- Laws of whole numbers: fractions compared by their squares, the numbers of 53 digits beside q * 2 ^ j, and squares on either side of a radicand.
use mathlib.Core.Path.{◌≡◌, sym, ap, ◌∙◌, subst}
use Prim.Native.Nat.{ℕ, suc, ◌+◌, ◌*◌, ◌/◌, ◌%◌, ◌^◌, ◌≤◌, ◌<◌}
use native.Mathlib.Nat.{le_trans, le_of_eq, le_of_lt, lt_of_lt_of_le, lt_of_le_of_lt, lt_of_not-le, not-le_of_lt, le_dest, mul_comm, mul_assoc, mul_left_comm, mul_right_comm, mul-mul-mul_comm, add-mul, mul-add, mul-one, one-mul, suc-mul, pow-suc, pow-succ', mul-pos, mul-le-mul, mul-le-mul_left, mul-le-mul_right, mul-lt-mul_of_pos_right, lt_of_mul-lt-mul_right}
use mathlib.Core.Logic.{◌⊎◌, inl, inr}
use native.Mathlib.Decide.{dec_le}
use native.Mathlib.Omega.{arith}
use lib.Pow.{pow-add, pow_pos, pow_mono}
use Rattle.root.specs.Inner.Steps.{Floor}

-- ---- fractions: nx / dx is a / (U * U), and s / d is S / U
module _ (nx dx a s d S U : ℕ) (e : nx * (U * U) ≡ a * dx) (f : s * U ≡ S * d) (p : 0 < dx) (q : 0 < d) where
  left_is : nx * (2 * d * (2 * d)) * (U * U) ≡ a * 4 * (dx * (d * d))
  left_is =
      mul_right_comm nx (2 * d * (2 * d)) (U * U)
      ∙ ap (λ (z : ℕ). z * (2 * d * (2 * d))) e
      ∙ ap (λ (z : ℕ). a * dx * z) (mul-mul-mul_comm 2 d 2 d)
      ∙ simp (mul_assoc, mul_comm, mul_left_comm) (omega arith)

  right_is : s * s * dx * (U * U) ≡ S * S * (dx * (d * d))
  right_is =
      mul_right_comm (s * s) dx (U * U)
      ∙ ap (λ (z : ℕ). z * dx) (mul-mul-mul_comm s s U U)
      ∙ ap (λ (z : ℕ). z * z * dx) f
      ∙ simp (mul_assoc, mul_comm, mul_left_comm)

  some : 0 < dx * (d * d)
  some = mul-pos p (mul-pos q q)

  pub under : a * 4 < S * S → nx * (2 * d * (2 * d)) < s * s * dx
  under h = lt_of_mul-lt-mul_right (U * U) (lt_of_le_of_lt (le_of_eq left_is) (lt_of_lt_of_le (mul-lt-mul_of_pos_right h some) (le_of_eq (sym right_is))))

  pub over : S * S < a * 4 → s * s * dx < nx * (2 * d * (2 * d))
  over h = lt_of_mul-lt-mul_right (U * U) (lt_of_le_of_lt (le_of_eq right_is) (lt_of_lt_of_le (mul-lt-mul_of_pos_right h some) (le_of_eq (sym left_is))))

  pub under_back : 0 < U * U → nx * (2 * d * (2 * d)) < s * s * dx → a * 4 < S * S
  under_back u h = lt_of_mul-lt-mul_right (dx * (d * d)) (lt_of_le_of_lt (le_of_eq (sym left_is)) (lt_of_lt_of_le (mul-lt-mul_of_pos_right h u) (le_of_eq right_is)))

  pub over_back : 0 < U * U → s * s * dx < nx * (2 * d * (2 * d)) → S * S < a * 4
  over_back u h = lt_of_mul-lt-mul_right (dx * (d * d)) (lt_of_le_of_lt (le_of_eq (sym right_is)) (lt_of_lt_of_le (mul-lt-mul_of_pos_right h u) (le_of_eq left_is)))

-- nr / dr is Q / U and ny / dy is N / U
module _ (nr dr ny dy Q N U : ℕ) (e : nr * U ≡ Q * dr) (f : ny * U ≡ N * dy) where
  pub sum_is : (nr * dy + ny * dr) * U ≡ (Q + N) * (dr * dy)
  sum_is =
      add-mul (nr * dy) (ny * dr) U
      ∙ ap (λ (z : ℕ). z + ny * dr * U) (mul_right_comm nr dy U ∙ ap (λ (z : ℕ). z * dy) e ∙ mul_assoc Q dr dy)
      ∙ ap (λ (z : ℕ). Q * (dr * dy) + z) (mul_right_comm ny dr U ∙ ap (λ (z : ℕ). z * dr) f ∙ mul_assoc N dy dr ∙ ap (λ (z : ℕ). N * z) (mul_comm dy dr))
      ∙ sym (add-mul Q N (dr * dy))

  pub cross_lt : 0 < U → nr * dy < ny * dr → Q < N
  cross_lt u h =
      lt_of_mul-lt-mul_right (dr * dy)
      (lt_of_le_of_lt (le_of_eq (sym (mul_assoc Q dr dy) ∙ ap (λ (z : ℕ). z * dy) (sym e) ∙ mul_right_comm nr U dy))
      (lt_of_lt_of_le (mul-lt-mul_of_pos_right h u) (le_of_eq (mul_right_comm ny dr U ∙ ap (λ (z : ℕ). z * dr) f ∙ mul_assoc N dy dr ∙ ap (λ (z : ℕ). N * z) (mul_comm dy dr)))))

-- ---- the numbers n * 2 ^ i, n having no more digits than q, beside q * 2 ^ j
short : (H n i q j : ℕ) → n < H * 2 → H ≤ q → i < j → n * 2 ^ i < q * 2 ^ j
short H n i q j h l k =
    lt_of_lt_of_le (mul-lt-mul_of_pos_right h (pow_pos i))
    (le_trans (le_of_eq (mul_assoc H 2 (2 ^ i) ∙ ap (λ (z : ℕ). H * z) (sym (pow-succ' 2 i)))) (mul-le-mul l (pow_mono k)))

regrouped : (n i j d : ℕ) → j + d ≡ i → n * 2 ^ i ≡ n * 2 ^ d * 2 ^ j
regrouped n i j d e = ap (λ (z : ℕ). n * 2 ^ z) (sym e) ∙ ap (λ (z : ℕ). n * z) (pow-add 2 j d) ∙ simp (mul_assoc, mul_comm)

next_up : (q w p m : ℕ) → m ≡ w * p → q * p < m → suc q * p ≤ m
next_up q w p m e h = le_trans (mul-le-mul_right p (lt_of_mul-lt-mul_right p (lt_of_lt_of_le h (le_of_eq e)))) (le_of_eq (sym e))

next_down : (q w p m : ℕ) → m ≡ w * p → m < q * p → m + p ≤ q * p
next_down q w p m e h =
    le_trans (le_of_eq (ap (λ (z : ℕ). z + p) e ∙ sym (suc-mul w p)))
    (mul-le-mul_right p (lt_of_mul-lt-mul_right p (lt_of_le_of_lt (le_of_eq (sym e)) h)))

pub wider : (H n i q j : ℕ) → n < H * 2 → H ≤ q → q * 2 ^ j < n * 2 ^ i → suc q * 2 ^ j ≤ n * 2 ^ i
wider H n i q j h l k = go (dec_le j i)
  where
    go : Dec (j ≤ i) → suc q * 2 ^ j ≤ n * 2 ^ i
    go (yes u) = next_up q (n * 2 ^ (le_dest u).0) (2 ^ j) (n * 2 ^ i) (regrouped n i j (le_dest u).0 (le_dest u).1) k
    go (no u) = absurd (not-le_of_lt k (le_of_lt (short H n i q j h l (lt_of_not-le u))))

pub narrower : (H n i p j : ℕ) → n < H * 2 → H ≤ p → n * 2 ^ i < suc p * 2 ^ j → n * 2 ^ i + 2 ^ j ≤ suc p * 2 ^ j
narrower H n i p j h l k = go (dec_le j i)
  where
    last : (a b c : ℕ) → a < b → a + c ≤ b + c
    last a b c t = omega arith

    go : Dec (j ≤ i) → n * 2 ^ i + 2 ^ j ≤ suc p * 2 ^ j
    go (yes u) = next_down (suc p) (n * 2 ^ (le_dest u).0) (2 ^ j) (n * 2 ^ i) (regrouped n i j (le_dest u).0 (le_dest u).1) k
    go (no u) = le_trans (last (n * 2 ^ i) (p * 2 ^ j) (2 ^ j) (short H n i p j h l (lt_of_not-le u))) (le_of_eq (sym (suc-mul p (2 ^ j))))

-- ---- a sum S of two numbers, in units of which the radicand R counts P * P: against c halves of 2 * P * 2
square_is : (c P : ℕ) → c * (P * 2) * (c * (P * 2)) ≡ c * c * (P * P * 4)
square_is c P = mul-mul-mul_comm c (P * 2) c (P * 2) ∙ ap (λ (z : ℕ). c * c * z) (mul-mul-mul_comm P 2 P 2)

module _ (R P S c : ℕ) (p : 0 < P) where
  unit : 0 < P * P * 4
  unit = let t : 0 < 4 = omega arith in mul-pos (mul-pos p p) t

  pub past : c * (P * 2) ≤ S → R < c * c → R * (P * P) * 4 < S * S
  past h r =
      lt_of_le_of_lt (le_of_eq (mul_assoc R (P * P) 4))
      (lt_of_lt_of_le (mul-lt-mul_of_pos_right r unit) (le_trans (le_of_eq (sym (square_is c P))) (mul-le-mul h h)))

  pub short_of : S ≤ c * (P * 2) → c * c < R → S * S < R * (P * P) * 4
  short_of h r =
      lt_of_le_of_lt (le_trans (mul-le-mul h h) (le_of_eq (square_is c P)))
      (lt_of_lt_of_le (mul-lt-mul_of_pos_right r unit) (le_of_eq (sym (mul_assoc R (P * P) 4))))

  pub strictly : S < c * (P * 2) → c * c ≤ R → S * S < R * (P * P) * 4
  strictly h r =
      lt_of_le_of_lt (mul-le-mul_left S (le_of_lt h))
      (lt_of_lt_of_le (mul-lt-mul_of_pos_right h (lt_of_le_of_lt (zero≤ S) h))
      (le_trans (le_of_eq (square_is c P)) (le_trans (mul-le-mul_right (P * P * 4) r) (le_of_eq (sym (mul_assoc R (P * P) 4))))))
    where
      zero≤ : (n : ℕ) → 0 ≤ n
      zero≤ n = omega arith

-- ---- q is the number nearest the root of R, counted in halves: the root lies from q up to the next half, or from the half before up to q, and not on a half
pub record Rounds (H R q : ℕ) : Type 0 where
  pub high : R < (2 * q + 1) * (2 * q + 1)
  pub low : (2 * q * (2 * q) ≤ R) ⊎ ((p : ℕ) × (q ≡ suc p) × (H ≤ p) × ((2 * p + 1) * (2 * p + 1) < R))

odd_times : (q W : ℕ) → (2 * q + 1) * W ≡ q * W + (q * W + W)
odd_times q W = simp (add-mul, mul_assoc, one-mul) (omega arith)

even_times : (q W : ℕ) → 2 * q * W ≡ q * W + q * W
even_times q W = simp mul_assoc (omega arith)

module _ (H R q j n i : ℕ) (h : Rounds H R q) (u : n < H * 2) (l : H ≤ q) where
  W : 2 ^ suc j ≡ 2 ^ j * 2
  W = pow-suc 2 j

  pub larger : q * 2 ^ suc j < n * 2 ^ i → R * (2 ^ j * 2 ^ j) * 4 < (q * 2 ^ suc j + n * 2 ^ i) * (q * 2 ^ suc j + n * 2 ^ i)
  larger k =
      let w = wider H n i q (suc j) u l k in
      let g : (2 * q + 1) * 2 ^ suc j ≤ q * 2 ^ suc j + n * 2 ^ i = omega (arith, odd_times q (2 ^ suc j), suc-mul q (2 ^ suc j)) in
      past R (2 ^ j) (q * 2 ^ suc j + n * 2 ^ i) (2 * q + 1) (pow_pos j) (subst (λ (z : ℕ). (2 * q + 1) * z ≤ q * 2 ^ suc j + n * 2 ^ i) W g) h.high

  pub smaller : n * 2 ^ i < q * 2 ^ suc j → (q * 2 ^ suc j + n * 2 ^ i) * (q * 2 ^ suc j + n * 2 ^ i) < R * (2 ^ j * 2 ^ j) * 4
  smaller k = go h.low
    where
      at : (p : ℕ) → H ≤ p → (2 * p + 1) * (2 * p + 1) < R → n * 2 ^ i < suc p * 2 ^ suc j → (suc p * 2 ^ suc j + n * 2 ^ i) * (suc p * 2 ^ suc j + n * 2 ^ i) < R * (2 ^ j * 2 ^ j) * 4
      at p lp b k' =
          let w = narrower H n i p (suc j) u lp k' in
          let g : suc p * 2 ^ suc j + n * 2 ^ i ≤ (2 * p + 1) * 2 ^ suc j = omega (arith, odd_times p (2 ^ suc j), suc-mul p (2 ^ suc j)) in
          short_of R (2 ^ j) (suc p * 2 ^ suc j + n * 2 ^ i) (2 * p + 1) (pow_pos j) (subst (λ (z : ℕ). suc p * 2 ^ suc j + n * 2 ^ i ≤ (2 * p + 1) * z) W g) b

      go : (2 * q * (2 * q) ≤ R) ⊎ ((p : ℕ) × (q ≡ suc p) × (H ≤ p) × ((2 * p + 1) * (2 * p + 1) < R)) → (q * 2 ^ suc j + n * 2 ^ i) * (q * 2 ^ suc j + n * 2 ^ i) < R * (2 ^ j * 2 ^ j) * 4
      go (inl b) =
          let g : q * 2 ^ suc j + n * 2 ^ i < 2 * q * 2 ^ suc j = omega (arith, even_times q (2 ^ suc j)) in
          strictly R (2 ^ j) (q * 2 ^ suc j + n * 2 ^ i) (2 * q) (pow_pos j) (subst (λ (z : ℕ). q * 2 ^ suc j + n * 2 ^ i < 2 * q * z) W g) b
      go (inr (p, e, lp, b)) =
          subst (λ (z : ℕ). (z * 2 ^ suc j + n * 2 ^ i) * (z * 2 ^ suc j + n * 2 ^ i) < R * (2 ^ j * 2 ^ j) * 4) (sym e) (at p lp b (subst (λ (z : ℕ). n * 2 ^ i < z * 2 ^ suc j) e k))

-- ---- from the root cut to a whole number of halves
odd_odd : (f p : ℕ) → f ≡ 2 * p + 1 → f * f ≡ 2 * (2 * p * p + 2 * p) + 1
odd_odd f p e = ap (λ (z : ℕ). z * z) e ∙ simp (mul-add, add-mul, mul-one, one-mul, mul_assoc) (simp (mul_left_comm p 2 p) (omega arith))

pub rounds : (H R f : ℕ) → Floor R f → R % 2 ≡ 0 → H * 2 ≤ f → Rounds H R ((f + 1) / 2)
rounds H R f h e l = go (dec_le (f % 2) 0)
  where
    go : Dec (f % 2 ≤ 0) → Rounds H R ((f + 1) / 2)
    go (yes z) =
        let g : 2 * ((f + 1) / 2) ≡ f = omega arith in
        record {
          high = subst (λ (t : ℕ). R < (t + 1) * (t + 1)) (sym g) h.high;
          low = inl (subst (λ (t : ℕ). t * t ≤ R) (sym g) h.low);
        }
    go (no z) =
        let d : f % 2 ≡ 1 = one_of f z in
        let g : 2 * (f / 2) + 1 ≡ f = omega arith in
        let k : (f + 1) / 2 ≡ suc (f / 2) = omega arith in
        let b : H ≤ f / 2 = omega arith in
        let s : f * f ≡ 2 * (2 * (f / 2) * (f / 2) + 2 * (f / 2)) + 1 = odd_odd f (f / 2) (sym g) in
        let t : f * f < R = unlike R (f * f) (2 * (f / 2) * (f / 2) + 2 * (f / 2)) h.low s e in
        let v : f + 1 ≤ 2 * ((f + 1) / 2) + 1 = omega arith in
        record {
          high = lt_of_lt_of_le h.high (mul-le-mul v v);
          low = inr (f / 2, k, b, subst (λ (w : ℕ). w * w < R) (sym g) t);
        }
      where
        one_of : (n : ℕ) → (n % 2 ≤ 0 → ⊥) → n % 2 ≡ 1
        one_of n w = let a : 0 < n % 2 = lt_of_not-le w in omega arith

        unlike : (r a b : ℕ) → a ≤ r → a ≡ 2 * b + 1 → r % 2 ≡ 0 → a < r
        unlike r a b x y w = omega arith
