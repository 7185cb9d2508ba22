-- A double is nearest a root where its whole number of units is nearest the whole root.
use mathlib.Core.Path.{◌≡◌, refl, sym, ap, ◌∙◌, subst}
use Prim.Native.Nat.{ℕ, zero, suc, ◌+◌, ◌-◌, ◌*◌, ◌%◌, ◌^◌, ◌≤◌, ◌<◌}
use native.Mathlib.Nat.{zero-mul, mul-one, mul_assoc, lt_of_not-le, not-le_of_lt, sub-add_cancel, mul-pos}
use native.Mathlib.Decide.{dec_le}
use mathlib.Core.Bool.{Bool, true, false, ◌&&◌}
use lib.IntN.{ℤ, pos, negsuc}
use lib.Dec.{T, ltb, leb, eqb, ltb→lt, leb→le}
use lib.Pow.{pow-add, pow_pos, pow-lt}
use lib.Ieee.{Float, nan, inf, fin, binary64, up, down, fits, lt}
use lib.Ieee.Fits.{and_l, and_r}
use lib.Ieee.Exact.{HasValue}
use lib.Ieee.Positive.{num, den, positive, den_pos, value→cross}
use Rattle.root.specs.Root.{number, mid, Under, Over, NearestRoot}
use Rattle.root.proofs.Squares.{under, over, sum_is, cross_lt, Rounds, larger, smaller}

-- ---- a double is n * 2 ^ i of the smallest ones, n having 53 digits
exponent_of : (a : ℕ) → 2 ^ suc a ≤ 2 ^ 1074 → suc a ≤ 1074
exponent_of a h = go (dec_le (suc a) 1074)
  where
    go : Dec (suc a ≤ 1074) → suc a ≤ 1074
    go (yes u) = u
    go (no u) = absurd (not-le_of_lt (pow-lt (lt_of_not-le u)) h)

abbrev Shape : ℕ → ℤ → Type 0
Shape n e = (i : ℕ) × (n * up e * 2 ^ 1074 ≡ n * 2 ^ i * down e)

shape_at : (n : ℕ) (e : ℤ) → down e ≤ 2 ^ 1074 → Shape n e
shape_at n (pos a) h = (a + 1074, mul_assoc n (2 ^ a) (2 ^ 1074) ∙ ap (λ (z : ℕ). n * z) (sym (pow-add 2 a 1074)) ∙ sym (mul-one (n * 2 ^ (a + 1074))))
shape_at n (negsuc a) h = (
  1074 - suc a,
  ap (λ (z : ℕ). z * 2 ^ 1074) (mul-one n)
      ∙ ap (λ (z : ℕ). n * 2 ^ z) (sym (sub-add_cancel (exponent_of a h)))
      ∙ ap (λ (z : ℕ). n * z) (pow-add 2 (1074 - suc a) (suc a))
      ∙ sym (mul_assoc n (2 ^ (1074 - suc a)) (2 ^ suc a)),
)

pub shape : (n : ℕ) (e : ℤ) → T (fits binary64 (fin false n e)) → (n < 2 ^ 53) × Shape n e
unfolding fits
shape zero e t = (pow_pos 53, (0, ap (λ (z : ℕ). z * 2 ^ 1074) (zero-mul (up e)) ∙ zero-mul (2 ^ 1074) ∙ sym (zero-mul (down e))))
shape (suc m) e t =
    let a = eqb (suc m % 2) 1 in
    let b = ltb (suc m) (2 ^ 53) in
    let c = leb (down e) (2 ^ 1074) in
    let d = ltb (suc m * up e) (2 ^ 1024 * down e) in
    let k = and_l (a && b && c) d t in
    (ltb→lt (suc m) (2 ^ 53) (and_r a b (and_l (a && b) c k)), shape_at (suc m) e (leb→le (down e) (2 ^ 1074) (and_r (a && b) c k)))

-- ---- the order of two finite values that are not negative
abbrev pub plain : Float → Bool
plain nan = false
plain (inf s) = false
plain (fin true m e) = false
plain (fin false m e) = true

pub lt_is : (x y : Float) → T (plain x) → T (plain y) → lt x y ≡ ltb (num x * den y) (num y * den x)
unfolding lt
lt_is nan y p q = absurd p
lt_is (inf s) y p q = absurd p
lt_is (fin true m e) y p q = absurd p
lt_is (fin false m e) nan p q = absurd q
lt_is (fin false m e) (inf s) p q = absurd q
lt_is (fin false m e) (fin true n d) p q = absurd q
lt_is (fin false m e) (fin false n d) p q = refl

pub lt_cross : (x y : Float) → T (plain x) → T (plain y) → T (lt x y) → num x * den y < num y * den x
lt_cross x y p q h = ltb→lt (num x * den y) (num y * den x) (subst T (lt_is x y p q) h)

pub positive_plain : (x : Float) → T (positive x) → T (plain x)
positive_plain nan p = absurd p
positive_plain (inf s) p = absurd p
positive_plain (fin true m e) p = absurd p
positive_plain (fin false m e) p = tt

-- ---- the double r = q * 2 ^ (j + 1) of the smallest ones is nearest the root of x = R * 4 ^ j of their squares, where q is nearest that of R, counted in halves
module _ (x r : Float) (R q j : ℕ) (X : 0 < den x) (vx : HasValue x false (R * (2 ^ j * 2 ^ j)) (2 ^ 1074 * 2 ^ 1074)) (vr : HasValue r false (q * 2 ^ suc j) (2 ^ 1074)) (h : Rounds (2 ^ 52) R q) (l : 2 ^ 52 ≤ q) (p : T (positive r)) where
  below : (y : Float) → T (number y) → T (lt r y) → Under x r y
  below nan n k = absurd n
  below (inf s) n k = absurd n
  below (fin true m e) n k = absurd n
  below (fin false m e) n k =
      let y = fin false m e in
      let s = shape m e n in
      let er = value→cross r (q * 2 ^ suc j) (2 ^ 1074) vr in
      let c = cross_lt (num r) (den r) (num y) (den y) (q * 2 ^ suc j) (m * 2 ^ s.1.0) (2 ^ 1074) er s.1.1 (pow_pos 1074) (lt_cross r y (positive_plain r p) tt k) in
      under (num x) (den x) (R * (2 ^ j * 2 ^ j)) (mid r y) (den r * den y) (q * 2 ^ suc j + m * 2 ^ s.1.0) (2 ^ 1074)
      (value→cross x (R * (2 ^ j * 2 ^ j)) (2 ^ 1074 * 2 ^ 1074) vx)
      (sum_is (num r) (den r) (num y) (den y) (q * 2 ^ suc j) (m * 2 ^ s.1.0) (2 ^ 1074) er s.1.1)
      X (mul-pos (den_pos r) (den_pos y))
      (larger (2 ^ 52) R q j m s.1.0 h s.0 l c)

  above : (y : Float) → T (number y) → T (lt y r) → Over x r y
  above nan n k = absurd n
  above (inf s) n k = absurd n
  above (fin true m e) n k = absurd n
  above (fin false m e) n k =
      let y = fin false m e in
      let s = shape m e n in
      let er = value→cross r (q * 2 ^ suc j) (2 ^ 1074) vr in
      let c = cross_lt (num y) (den y) (num r) (den r) (m * 2 ^ s.1.0) (q * 2 ^ suc j) (2 ^ 1074) s.1.1 er (pow_pos 1074) (lt_cross y r tt (positive_plain r p) k) in
      over (num x) (den x) (R * (2 ^ j * 2 ^ j)) (mid r y) (den r * den y) (q * 2 ^ suc j + m * 2 ^ s.1.0) (2 ^ 1074)
      (value→cross x (R * (2 ^ j * 2 ^ j)) (2 ^ 1074 * 2 ^ 1074) vx)
      (sum_is (num r) (den r) (num y) (den y) (q * 2 ^ suc j) (m * 2 ^ s.1.0) (2 ^ 1074) er s.1.1)
      X (mul-pos (den_pos r) (den_pos y))
      (smaller (2 ^ 52) R q j m s.1.0 h s.0 l c)

  pub nearest : T (fits binary64 r) → NearestRoot x r
  nearest f = record { held = f; above_zero = p; below_larger = below; above_smaller = above }
