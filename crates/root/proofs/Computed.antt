-- `root_of` is the root.
use mathlib.Core.Path.{◌≡◌, refl, sym, ap, ◌∙◌, subst}
use Prim.Native.Nat.{ℕ, zero, suc, ◌+◌, ◌-◌, ◌*◌, ◌/◌, ◌%◌, ◌^◌, ◌≤◌, ◌<◌, compare, Ordering}
use native.Mathlib.Nat.{zero-lt-suc, le_trans, le_of_eq, lt_of_lt_of_le, lt_of_le_of_lt, lt_of_not-le, not-le_of_lt, mul_assoc, mul_comm, mul_left_comm, mul_right_comm, mul-mul-mul_comm, mul-add, add-mul, mul-one, one-mul, pow-suc, pow-le-pow_left, mul-pos, mul-le-mul, mul-le-mul_right, mul-lt-mul_of_pos_right, div-lt_iff_lt-mul, mul-div_cancel, mul-div-mul_right}
use native.Mathlib.Decide.{dec_le}
use native.Mathlib.Omega.{arith}
use mathlib.Core.Bool.{Bool, true, false, not, cond}
use lib.Dec.{T, lt→ltb, leb, is_le, compare_is_eq, eqb, le→leb, leb→le, nleb→lt, eqb→eq}
use lib.Arith.{digits_div, digits_mod}
use lib.Pow.{pow-add, pow_pos, pow_mono, shl_lt}
use lib.Ieee.{Float, nan, inf, fin, binary64, fits, size, nearest, round, of_bits, to_bits}
use lib.Ieee.Fits.{round-fits}
use lib.Ieee.Bits.{of_bits-fits}
use lib.Ieee.Digits.{size-lt, size-le, size_reaches}
use lib.Ieee.Exact.{HasValue}
use lib.Ieee.Nearest.{closest, closest_same}
use lib.Ieee.Order.{drop}
use lib.Ieee.Scale.{grid, round_val}
use lib.Ieee.Positive.{num, den, positive, den_pos, value→cross, positive_of_value}
use Rattle.root.specs.Root.{NearestRoot, IsRoot, Rooted, next_digit, cut_root, rounded_root, root_of}
use Rattle.root.specs.Inner.Steps.{Floor, Scale, units_of}
use Rattle.root.proofs.Nearest.{positive_plain}
use Rattle.root.proofs.Fields.{read}
use Rattle.root.proofs.Scaling.{normal}
use Rattle.root.proofs.Result.{radicand_low, radicand_high, radicand_is, root_low, root_high, result_value, result_positive, result_nearest}
use Rattle.root.proofs.Unique.{same_value, unique}

-- ---- the root cut to a whole number
four_squares : (q : ℕ) → 2 * q * (2 * q) ≡ q * q * 4
four_squares q = simp (mul_assoc, mul_comm, mul_left_comm) (omega arith)

next_four : (q : ℕ) → (2 * q + 1 + 1) * (2 * q + 1 + 1) ≡ (q + 1) * (q + 1) * 4
next_four q = simp (mul-add, add-mul, mul-one, one-mul) (omega (arith, four_squares q))

digit_floor : (n q : ℕ) → Floor (n / 4) q → Floor n (next_digit n q)
unfolding next_digit
digit_floor n q h = go (leb ((2 * q + 1) * (2 * q + 1)) n) (leb→le ((2 * q + 1) * (2 * q + 1)) n) (nleb→lt ((2 * q + 1) * (2 * q + 1)) n)
  where
    go : (b : Bool) → (T b → (2 * q + 1) * (2 * q + 1) ≤ n) → (T (not b) → n < (2 * q + 1) * (2 * q + 1)) → Floor n (cond b (2 * q + 1) (2 * q))
    go true y z = record { low = y tt; high = omega (arith, h.high, next_four q) }
    go false y z = record { low = omega (arith, h.low, four_squares q); high = z tt }

pub cut_floor : (d n : ℕ) → n < 4 ^ d → Floor n (cut_root d n)
unfolding cut_root
cut_floor zero n h = record { low = omega arith; high = h }
cut_floor (suc d) n h =
    let t : 0 < 4 = omega arith in
    digit_floor n (cut_root d (n / 4)) (cut_floor d (n / 4) ((div-lt_iff_lt-mul t).1 (lt_of_lt_of_le h (le_of_eq (pow-suc 4 d)))))

enough : (n : ℕ) → n < 4 ^ size n
enough n = let t : 2 ≤ 4 = omega arith in lt_of_lt_of_le (size-lt n) (pow-le-pow_left t (size n))

whole_root : (n : ℕ) → Floor n (cut_root (size n) n)
whole_root n = cut_floor (size n) n (enough n)

-- ---- the root F of R * (P * P) begins with the root f of R
less_of_squares : (a b : ℕ) → a * a < b * b → a < b
less_of_squares a b h = lt_of_not-le (λ (k : b ≤ a). not-le_of_lt h (mul-le-mul k k))

module _ (R P F f : ℕ) (p : 0 < P) (H : Floor (R * (P * P)) F) (h : Floor R f) where
  begins : f * P ≤ F
  begins =
      let k : f * P < F + 1 = less_of_squares (f * P) (F + 1) (lt_of_le_of_lt (le_trans (le_of_eq (mul-mul-mul_comm f P f P)) (mul-le-mul_right (P * P) h.low)) H.high) in
      omega arith

  ends : F < (f + 1) * P
  ends =
      less_of_squares F ((f + 1) * P)
      (lt_of_le_of_lt H.low (lt_of_lt_of_le (mul-lt-mul_of_pos_right h.high (mul-pos p p)) (le_of_eq (sym (mul-mul-mul_comm (f + 1) P (f + 1) P)))))

-- ---- F and a half, rounded to a multiple of 2 * P, is (f + 1) / 2 of them
less_is : (a b : ℕ) → a < b → compare a b ≡ Ordering.lt
less_is a b h = go (compare a b) (le→leb a b (le_of h)) (λ (t : T (eqb a b)). not_same a b h (eqb→eq a b t))
  where
    le_of : {x y : ℕ} → x < y → x ≤ y
    le_of k = omega arith

    not_same : (x y : ℕ) → x < y → x ≡ y → ⊥
    not_same x y k e = omega arith

    go : (o : Ordering) → T (is_le o) → (T (compare_is_eq o) → ⊥) → o ≡ Ordering.lt
    go Ordering.lt x y = refl
    go Ordering.eq x y = absurd (y tt)
    go Ordering.gt x y = absurd x

more_is : (a b : ℕ) → b < a → compare a b ≡ Ordering.gt
more_is a b h = go (compare a b) (λ (t : T (leb a b)). not-le_of_lt h (leb→le a b t))
  where
    go : (o : Ordering) → (T (is_le o) → ⊥) → o ≡ Ordering.gt
    go Ordering.lt x = absurd (x tt)
    go Ordering.eq x = absurd (x tt)
    go Ordering.gt x = refl

closest_by : (a b h r : ℕ) (o : Ordering) → r < b → a ≡ h * b + r → compare (r * 2) b ≡ o → closest a b ≡ nearest h o
closest_by a b h r o l e c =
    ap (λ (z : ℕ). closest z b) e
    ∙ ap (λ (z : ℕ). nearest z (compare ((h * b + r) % b * 2) b)) (digits_div h l)
    ∙ ap (λ (z : ℕ). nearest h (compare (z * 2) b)) (digits_mod h l)
    ∙ ap (nearest h) c

half_rounds : (P F f : ℕ) → 0 < P → f * P ≤ F → F < (f + 1) * P → closest (2 * F + 1) (2 * (P * 2)) ≡ (f + 1) / 2
half_rounds P F f p l u = go (dec_le (f % 2) 0)
  where
    even : (h g : ℕ) → f ≡ 2 * h → F ≡ f * P + g → g < P → closest (2 * F + 1) (2 * (P * 2)) ≡ h
    even h g e k m =
        let w : f * P ≡ 2 * (h * P) = ap (λ (z : ℕ). z * P) e ∙ mul_assoc 2 h P in
        let v : h * (2 * (P * 2)) ≡ h * P * 4 = simp (mul_assoc, mul_comm, mul_left_comm) (omega arith) in
        let a : 2 * F + 1 ≡ h * (2 * (P * 2)) + (2 * g + 1) = omega arith in
        let b : 2 * g + 1 < 2 * (P * 2) = omega arith in
        let c : (2 * g + 1) * 2 < 2 * (P * 2) = omega arith in
        closest_by (2 * F + 1) (2 * (P * 2)) h (2 * g + 1) Ordering.lt b a (less_is ((2 * g + 1) * 2) (2 * (P * 2)) c)

    odd : (h g : ℕ) → f ≡ 2 * h + 1 → F ≡ f * P + g → g < P → closest (2 * F + 1) (2 * (P * 2)) ≡ suc h
    odd h g e k m =
        let w : f * P ≡ 2 * (h * P) + P = ap (λ (z : ℕ). z * P) e ∙ simp (add-mul, mul_assoc, one-mul) in
        let v : h * (2 * (P * 2)) ≡ h * P * 4 = simp (mul_assoc, mul_comm, mul_left_comm) (omega arith) in
        let a : 2 * F + 1 ≡ h * (2 * (P * 2)) + (2 * P + (2 * g + 1)) = omega arith in
        let b : 2 * P + (2 * g + 1) < 2 * (P * 2) = omega arith in
        let c : 2 * (P * 2) < (2 * P + (2 * g + 1)) * 2 = omega arith in
        closest_by (2 * F + 1) (2 * (P * 2)) h (2 * P + (2 * g + 1)) Ordering.gt b a (more_is ((2 * P + (2 * g + 1)) * 2) (2 * (P * 2)) c)

    rest : F ≡ f * P + (F - f * P)
    rest = omega arith

    small : F - f * P < P
    small = let e : (f + 1) * P ≡ f * P + P = simp (add-mul, one-mul) in omega arith

    go : Dec (f % 2 ≤ 0) → closest (2 * F + 1) (2 * (P * 2)) ≡ (f + 1) / 2
    go (yes z) =
        let a : f ≡ 2 * (f / 2) = omega arith in
        let b : f / 2 ≡ (f + 1) / 2 = omega arith in
        even (f / 2) (F - f * P) a rest small ∙ b
    go (no z) =
        let d : 0 < f % 2 = lt_of_not-le z in
        let a : f ≡ 2 * (f / 2) + 1 = omega arith in
        let b : suc (f / 2) ≡ (f + 1) / 2 = omega arith in
        odd (f / 2) (F - f * P) a rest small ∙ b

-- ---- so `round` gives (f + 1) / 2 units of 2 ^ (j + 1)
module _ (F f j : ℕ) (fl : 2 ^ 53 ≤ f) (fh : f < 2 ^ 54 - 1) (b : f * 2 ^ j ≤ F) (e : F < (f + 1) * 2 ^ j) (J : j ≤ 1600) where
  size_is : size F ≡ 54 + j
  size_is =
      let top : f + 1 ≤ 2 ^ 54 = omega (arith, fh) in
      let hi : size F ≤ 54 + j = size-le F (54 + j) (lt_of_lt_of_le e (le_trans (mul-le-mul_right (2 ^ j) top) (le_of_eq (sym (pow-add 2 54 j))))) in
      let lo : 53 + j < size F = lt_of_not-le (λ (k : size F ≤ 53 + j). not-le_of_lt (lt_of_lt_of_le (size-lt F) (pow_mono k)) (le_trans (le_of_eq (pow-add 2 53 j)) (le_trans (mul-le-mul_right (2 ^ j) fl) b))) in
      omega arith

  whole_part : (2 * F + 1) * 2 ^ 1074 / 2 ^ 1075 ≡ F
  whole_part = mul-div-mul_right (2 * F + 1) 2 (pow_pos 1074) ∙ halved F
    where
      halved : (a : ℕ) → (2 * a + 1) / 2 ≡ a
      halved a = omega arith

  drop_is : drop 53 ((2 * F + 1) * 2 ^ 1074) (2 ^ 1075) ≡ suc j
  drop_is = ap (λ (z : ℕ). size z - 53) whole_part ∙ ap (λ (z : ℕ). z - 53) size_is ∙ last j
    where
      last : (a : ℕ) → 54 + a - 53 ≡ suc a
      last a = omega arith

  kept_is : closest ((2 * F + 1) * 2 ^ 1074) (2 ^ 1075 * 2 ^ suc j) ≡ (f + 1) / 2
  kept_is =
      closest_same ((2 * F + 1) * 2 ^ 1074) (2 ^ 1075 * 2 ^ suc j) (2 * F + 1) (2 * (2 ^ j * 2)) (mul-pos (pow_pos 1075) (pow_pos (suc j))) two_pos cross
      ∙ half_rounds (2 ^ j) F f (pow_pos j) b e
    where
      two_pos : 0 < 2 * (2 ^ j * 2)
      two_pos = let t : 0 < 2 ^ j = pow_pos j in omega arith

      cross : (2 * F + 1) * 2 ^ 1074 * (2 * (2 ^ j * 2)) ≡ (2 * F + 1) * (2 ^ 1075 * 2 ^ suc j)
      cross =
          mul_assoc (2 * F + 1) (2 ^ 1074) (2 * (2 ^ j * 2))
          ∙ ap (λ (z : ℕ). (2 * F + 1) * z) (sym (mul_assoc (2 ^ 1074) 2 (2 ^ j * 2)))
          ∙ ap (λ (z : ℕ). (2 * F + 1) * (2 ^ 1075 * z)) (sym (pow-suc 2 j))

  grid_is : grid binary64 (2 * F + 1) (2 ^ 1075) ≡ (f + 1) / 2 * 2 ^ suc j
  grid_is = ap (λ (z : ℕ). closest ((2 * F + 1) * 2 ^ 1074) (2 ^ 1075 * 2 ^ z) * 2 ^ z) drop_is ∙ ap (λ (z : ℕ). z * 2 ^ suc j) kept_is

  pub rounded : HasValue (round binary64 false (2 * F + 1) (2 ^ 1075)) false ((f + 1) / 2 * 2 ^ suc j) (2 ^ 1074)
  rounded =
      let q : (f + 1) / 2 < 2 ^ 53 = omega (arith, fh) in
      let m : 53 + suc j ≤ 2098 = omega arith in
      let u : (f + 1) / 2 * 2 ^ suc j < 2 ^ 2098 = lt_of_lt_of_le (shl_lt 53 (suc j) q) (pow_mono m) in
      subst (λ (g : ℕ). HasValue (round binary64 false (2 * F + 1) (2 ^ 1075)) false g (2 ^ 1074)) grid_is
      (round_val binary64 (2 * F + 1) (2 ^ 1075) (subst (λ (g : ℕ). g < 2 ^ 2098) (sym grid_is) u))

-- ---- every positive double's size can be written with 53 digits
pub scale_of : (field t : ℕ) → field < 2047 → t < 2 ^ 52 → 0 < units_of field t → (m : ℕ) × (k : ℕ) × Scale (units_of field t) m k
scale_of (suc g) t f l p = (2 ^ 52 + t, suc g + 51, normal (suc g) t f l (zero-lt-suc g))
scale_of zero t f l p =
    let s = size t in
    let hi : s ≤ 52 = size-le t 52 l in
    let lo : 0 < s = lt_of_not-le (λ (k : size t ≤ 0). not-le_of_lt (lt_of_lt_of_le (size-lt t) (pow_mono k)) p) in
    let a : s - 1 < s = omega arith in
    let e : 53 - s + (s - 1) ≡ 52 = omega arith in
    let e' : s - 1 + (53 - s) ≡ 52 = omega arith in
    let e'' : s + (53 - s) ≡ 53 = omega arith in
    let k : s - 1 ≤ 2098 = omega arith in (
      t * 2 ^ (53 - s),
      s - 1,
      record {
        low = le_trans (le_of_eq (ap (λ (z : ℕ). 2 ^ z) (sym e') ∙ pow-add 2 (s - 1) (53 - s))) (mul-le-mul_right (2 ^ (53 - s)) (size_reaches t (s - 1) a));
        high = lt_of_lt_of_le (mul-lt-mul_of_pos_right (size-lt t) (pow_pos (53 - s))) (le_of_eq (sym (pow-add 2 s (53 - s)) ∙ ap (λ (z : ℕ). 2 ^ z) e''));
        small = k;
        same = mul_assoc t (2 ^ (53 - s)) (2 ^ (s - 1)) ∙ ap (λ (z : ℕ). t * z) (sym (pow-add 2 (53 - s) (s - 1)) ∙ ap (λ (z : ℕ). 2 ^ z) e);
      },
    )

-- ---- the double that `rounded_root` gives
computed_is : (x : Float) → rounded_root x ≡ round binary64 false (2 * cut_root (size (num x * 2 ^ 2148 / den x)) (num x * 2 ^ 2148 / den x) + 1) (2 ^ 1075)
unfolding rounded_root
computed_is x = refl

radicand_of : (x : Float) (n : ℕ) → HasValue x false n (2 ^ 1074) → num x * 2 ^ 2148 / den x ≡ n * 2 ^ 1074
radicand_of x n v =
    ap (λ (z : ℕ). z / den x) (sym (mul_assoc (num x) (2 ^ 1074) (2 ^ 1074)) ∙ ap (λ (z : ℕ). z * 2 ^ 1074) (value→cross x n (2 ^ 1074) v) ∙ mul_right_comm n (den x) (2 ^ 1074))
    ∙ mul-div_cancel (n * 2 ^ 1074) (den_pos x)

at_scale : (x : Float) (n m k : ℕ) → HasValue x false n (2 ^ 1074) → Scale n m k → NearestRoot x (rounded_root x)
at_scale x n m k v s =
    let R = m * (1 + k % 2) * 2 ^ 54 in
    let j = k / 2 + 484 in
    let N = num x * 2 ^ 2148 / den x in
    let f = cut_root (size R) R in
    let F = cut_root (size N) N in
    let h : Floor R f = whole_root R in
    let e : N ≡ R * (2 ^ j * 2 ^ j) = radicand_of x n v ∙ sym (radicand_is n m k s) in
    let H : Floor (R * (2 ^ j * 2 ^ j)) F = subst (λ (z : ℕ). Floor z F) e (whole_root N) in
    let fl = root_low (m * (1 + k % 2)) f h (radicand_low n m k s) in
    let fh = root_high (m * (1 + k % 2)) f h (radicand_high n m k s) in
    let J : j ≤ 1600 = omega (arith, s.small) in
    let w = rounded F f j fl fh (begins R (2 ^ j) F f (pow_pos j) H h) (ends R (2 ^ j) F f (pow_pos j) H h) J in
    let c : rounded_root x ≡ round binary64 false (2 * F + 1) (2 ^ 1075) = computed_is x in
    let r = of_bits binary64 ((k / 2 + 485) * 2 ^ 52 + (f + 1) / 2) in
    let q = round binary64 false (2 * F + 1) (2 ^ 1075) in
    let d : k / 2 + 485 ≡ suc j = omega arith in
    let g = subst (λ (z : ℕ). HasValue r false ((f + 1) / 2 * 2 ^ z) (2 ^ 1074)) d (result_value x n m k f v s h) in
    let y : 0 < (f + 1) / 2 = omega (arith, fl) in
    let same : r ≡ q =
    same_value r q ((f + 1) / 2 * 2 ^ suc j) (2 ^ 1074) (pow_pos 1074) (positive_plain r (result_positive x n m k f v s h)) (positive_plain q (positive_of_value q ((f + 1) / 2 * 2 ^ suc j) (2 ^ 1074) w (mul-pos y (pow_pos (suc j)))))
    (of_bits-fits binary64 ((k / 2 + 485) * 2 ^ 52 + (f + 1) / 2)) (round-fits binary64 false (2 * F + 1) (2 ^ 1075)) g w in
    subst (λ (z : Float). NearestRoot x z) (same ∙ sym c) (result_nearest x n m k f v s h)

pub computed_nearest : (x : Float) → T (fits binary64 x) → T (positive x) → NearestRoot x (rounded_root x)
computed_nearest x f p =
    let r = read x f p in
    let b = to_bits binary64 x in
    let l : b % 2 ^ 52 < 2 ^ 52 = omega arith in
    let s = scale_of (b / 2 ^ 52) (b % 2 ^ 52) r.field l r.some in
    at_scale x (units_of (b / 2 ^ 52) (b % 2 ^ 52)) s.0 s.1 r.value s.2

-- every double's root
pub root_right : (x : Float) → T (fits binary64 x) → IsRoot x (root_of x)
unfolding root_of
root_right nan f = refl
root_right (inf true) f = refl
root_right (inf false) f = refl
root_right (fin true zero e) f = refl
root_right (fin false zero e) f = refl
root_right (fin true (suc m) e) f = refl
root_right (fin false (suc m) e) f = computed_nearest (fin false (suc m) e) f (lt→ltb 0 (suc m) (zero-lt-suc m))

pub rooted : (x r : Float) → T (fits binary64 x) → IsRoot x r → Rooted x r
rooted x r f h = record { right = h; is = unique x r (root_of x) h (root_right x f) }
