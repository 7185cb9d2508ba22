-- To be nearest a root is to be judged so against the two neighbours alone.
use mathlib.Core.Path.{◌≡◌, refl, sym, ap, ◌∙◌, subst}
use Prim.Native.Nat.{ℕ, zero, suc, ◌+◌, ◌-◌, ◌*◌, ◌/◌, ◌%◌, ◌^◌, ◌≤◌, ◌<◌}
use native.Mathlib.Nat.{zero-lt-suc, le_trans, le_of_eq, le_of_lt, lt_of_lt_of_le, lt_of_le_of_lt, lt_of_not-le, not-le_of_lt, le_dest, add-zero, mul_comm, mul_assoc, mul_right_comm, mul-one, zero-mul, mul-pos, mul-le-mul, mul-lt-mul_of_pos_right, lt_of_mul-lt-mul_right, pow-suc}
use mathlib.Core.Logic.{◌⊎◌, inl, inr}
use native.Mathlib.Decide.{dec_le}
use native.Mathlib.Omega.{arith}
use mathlib.Core.Bool.{true, false}
use lib.Dec.{T, lt→ltb}
use lib.Pow.{pow_pos}
use lib.Ieee.{Float, nan, inf, fin, binary64, up, down, fits, lt, odd, of_fields, of_bits, to_bits}
use lib.Ieee.Bits.{of_bits-fits}
use lib.Ieee.Exact.{HasValue, odd_sign}
use lib.Ieee.Positive.{num, den, positive, den_pos, value→cross, positive_of_value}
use Rattle.root.specs.Root.{number, mid, Under, Over, NearestRoot}
use Rattle.root.specs.Inner.Steps.{units_of}
use Rattle.root.proofs.Squares.{under, over, under_back, over_back, sum_is, cross_lt}
use Rattle.root.proofs.Nearest.{plain, positive_plain, lt_is, lt_cross}
use Rattle.root.proofs.Fields.{Read, read, read_bits, fields_at, sign_clear}
use Rattle.root.proofs.Unique.{number_of}
use Rattle.root.proofs.Result.{widen}

-- NearestRoot as its two neighbours alone show it. Their bit patterns are the numbers next to r's; only the largest double has no finite one above it.
pub record NearestOfThree (x r : Float) : Type 0 where
  pub held : T (fits binary64 r)
  pub above_zero : T (positive r)
  pub below_next : T (positive (of_bits binary64 (to_bits binary64 r + 1))) → Under x r (of_bits binary64 (to_bits binary64 r + 1))
  pub above_prior : Over x r (of_bits binary64 (to_bits binary64 r - 1))

-- ---- the size of a pattern in units of 2 ^ -1074, which grows with the pattern
abbrev val : ℕ → ℕ
val b = units_of (b / 2 ^ 52) (b % 2 ^ 52)

within : (f t : ℕ) → units_of f t < units_of f (t + 1)
within zero t = omega arith
within (suc g) t = let h : 2 ^ 52 + t < 2 ^ 52 + (t + 1) = omega arith in mul-lt-mul_of_pos_right h (pow_pos g)

across : (f : ℕ) → units_of f (2 ^ 52 - 1) < units_of (suc f) 0
across zero = omega arith
across (suc g) = let p : 0 < 2 ^ g = pow_pos g in let e : 2 ^ suc g ≡ 2 ^ g * 2 = pow-suc 2 g in omega arith

val_step : (b : ℕ) → val b < val (b + 1)
val_step b = go (dec_le (2 ^ 52 - 1) (b % 2 ^ 52))
  where
    go : Dec (2 ^ 52 - 1 ≤ b % 2 ^ 52) → val b < val (b + 1)
    go (yes u) =
        let t : b % 2 ^ 52 ≡ 2 ^ 52 - 1 = omega arith in
        let f : (b + 1) / 2 ^ 52 ≡ suc (b / 2 ^ 52) = omega arith in
        let z : (b + 1) % 2 ^ 52 ≡ 0 = omega arith in
        rw (t, f, z) (across (b / 2 ^ 52))
    go (no u) =
        let l : b % 2 ^ 52 < 2 ^ 52 - 1 = lt_of_not-le u in
        let f : (b + 1) / 2 ^ 52 ≡ b / 2 ^ 52 = omega arith in
        let z : (b + 1) % 2 ^ 52 ≡ b % 2 ^ 52 + 1 = omega arith in
        rw (f, z) (within (b / 2 ^ 52) (b % 2 ^ 52))

grows : (a d : ℕ) → val a ≤ val (a + d)
grows a zero = le_of_eq (ap val (sym (add-zero a)))
grows a (suc d) =
    let e : a + d + 1 ≡ a + suc d = omega arith in
    le_trans (grows a d) (le_trans (le_of_lt (val_step (a + d))) (le_of_eq (ap val e)))

val_mono : (a b : ℕ) → a ≤ b → val a ≤ val b
val_mono a b h = subst (λ (z : ℕ). val a ≤ val z) (le_dest h).1 (grows a (le_dest h).0)

val_back : (a b : ℕ) → val a < val b → a < b
val_back a b h = lt_of_not-le (λ (k : b ≤ a). not-le_of_lt h (val_mono b a k))

-- ---- the double of a pattern below that of the infinity
fields_value : (f t : ℕ) → f < 2047 → HasValue (of_fields binary64 false f t) false (units_of f t) (2 ^ 1074)
unfolding of_fields
fields_value zero t h = subst (λ (n : ℕ). HasValue (odd 53 false t 0 1074) false n (2 ^ 1074)) (mul-one t) (odd_sign 53 false t 0 1074)
fields_value (suc g) t h = fields_at g t h

has_val : (b : ℕ) → b / 2 ^ 52 < 2047 → HasValue (of_bits binary64 b) false (val b) (2 ^ 1074)
has_val b h =
    let u : b < 2 ^ 63 = omega arith in
    subst (λ (x : Float). HasValue x false (val b) (2 ^ 1074)) (sym (sign_clear b u)) (fields_value (b / 2 ^ 52) (b % 2 ^ 52) h)

plain_of : (x : Float) (a c : ℕ) → HasValue x false a c → T (plain x)
plain_of nan a c v = v
plain_of (inf s) a c v = v
plain_of (fin true m e) a c v = absurd (no v.0)
  where
    no : true ≡ false → ⊥
    no e = subst T e tt
plain_of (fin false m e) a c v = tt

-- ---- the order by sizes in one unit
cross_of : (nr dr ny dy Q N U : ℕ) → nr * U ≡ Q * dr → ny * U ≡ N * dy → 0 < dr → 0 < dy → Q < N → nr * dy < ny * dr
cross_of nr dr ny dy Q N U e f p q h =
    lt_of_mul-lt-mul_right U
    (lt_of_le_of_lt (le_of_eq (mul_right_comm nr dy U ∙ ap (λ (z : ℕ). z * dy) e ∙ mul_assoc Q dr dy))
    (lt_of_lt_of_le (mul-lt-mul_of_pos_right h (mul-pos p q))
    (le_of_eq (ap (λ (z : ℕ). N * z) (mul_comm dr dy) ∙ sym (mul_assoc N dy dr) ∙ ap (λ (z : ℕ). z * dr) (sym f) ∙ mul_right_comm ny U dr))))

lt_by : (x y : Float) → T (plain x) → T (plain y) → num x * den y < num y * den x → T (lt x y)
lt_by x y p q h = subst T (sym (lt_is x y p q)) (lt→ltb (num x * den y) (num y * den x) h)

module _ (x y : Float) (a b : ℕ) (v : HasValue x false a (2 ^ 1074)) (w : HasValue y false b (2 ^ 1074)) where
  lt_of : a < b → T (lt x y)
  lt_of h =
      lt_by x y (plain_of x a (2 ^ 1074) v) (plain_of y b (2 ^ 1074) w)
      (cross_of (num x) (den x) (num y) (den y) a b (2 ^ 1074) (value→cross x a (2 ^ 1074) v) (value→cross y b (2 ^ 1074) w) (den_pos x) (den_pos y) h)

  of_lt : T (lt x y) → a < b
  of_lt h =
      cross_lt (num x) (den x) (num y) (den y) a b (2 ^ 1074) (value→cross x a (2 ^ 1074) v) (value→cross y b (2 ^ 1074) w) (pow_pos 1074)
      (lt_cross x y (plain_of x a (2 ^ 1074) v) (plain_of y b (2 ^ 1074) w) h)

-- ---- a midpoint farther off is farther off
module _ (x r y z : Float) (n Q N M : ℕ) (vx : HasValue x false n (2 ^ 1074)) (vr : HasValue r false Q (2 ^ 1074)) (vy : HasValue y false N (2 ^ 1074)) (vz : HasValue z false M (2 ^ 1074)) where
  ex : num x * (2 ^ 1074 * 2 ^ 1074) ≡ n * 2 ^ 1074 * den x
  ex = value→cross x (n * 2 ^ 1074) (2 ^ 1074 * 2 ^ 1074) (widen x n (2 ^ 1074) (n * 2 ^ 1074) refl vx)

  ey : mid r y * 2 ^ 1074 ≡ (Q + N) * (den r * den y)
  ey = sum_is (num r) (den r) (num y) (den y) Q N (2 ^ 1074) (value→cross r Q (2 ^ 1074) vr) (value→cross y N (2 ^ 1074) vy)

  ez : mid r z * 2 ^ 1074 ≡ (Q + M) * (den r * den z)
  ez = sum_is (num r) (den r) (num z) (den z) Q M (2 ^ 1074) (value→cross r Q (2 ^ 1074) vr) (value→cross z M (2 ^ 1074) vz)

  dy : 0 < den r * den y
  dy = mul-pos (den_pos r) (den_pos y)

  dz : 0 < den r * den z
  dz = mul-pos (den_pos r) (den_pos z)

  farther_up : N ≤ M → Under x r y → Under x r z
  farther_up h k =
      let s : Q + N ≤ Q + M = omega arith in
      under (num x) (den x) (n * 2 ^ 1074) (mid r z) (den r * den z) (Q + M) (2 ^ 1074) ex ez (den_pos x) dz
      (lt_of_lt_of_le (under_back (num x) (den x) (n * 2 ^ 1074) (mid r y) (den r * den y) (Q + N) (2 ^ 1074) ex ey (den_pos x) dy (mul-pos (pow_pos 1074) (pow_pos 1074)) k) (mul-le-mul s s))

  farther_down : M ≤ N → Over x r y → Over x r z
  farther_down h k =
      let s : Q + M ≤ Q + N = omega arith in
      over (num x) (den x) (n * 2 ^ 1074) (mid r z) (den r * den z) (Q + M) (2 ^ 1074) ex ez (den_pos x) dz
      (lt_of_le_of_lt (mul-le-mul s s) (over_back (num x) (den x) (n * 2 ^ 1074) (mid r y) (den r * den y) (Q + N) (2 ^ 1074) ex ey (den_pos x) dy (mul-pos (pow_pos 1074) (pow_pos 1074)) k))

-- ---- the two ways to say it are one
zero_or_positive : (y : Float) → T (number y) → HasValue y false 0 (2 ^ 1074) ⊎ T (positive y)
zero_or_positive nan h = absurd h
zero_or_positive (inf s) h = absurd h
zero_or_positive (fin true m e) h = absurd h
zero_or_positive (fin false zero e) h = inl (refl, ap (λ (z : ℕ). z * 2 ^ 1074) (zero-mul (up e)) ∙ zero-mul (2 ^ 1074) ∙ sym (zero-mul (down e)))
zero_or_positive (fin false (suc m) e) h = inr (lt→ltb 0 (suc m) (zero-lt-suc m))

fits_of : (y : Float) → T (number y) → T (fits binary64 y)
fits_of nan h = absurd h
fits_of (inf s) h = absurd h
fits_of (fin true m e) h = absurd h
fits_of (fin false m e) h = h

least : (n : ℕ) → 0 ≤ n
least n = omega arith

below_field : (a b : ℕ) → a ≤ b → b / 2 ^ 52 < 2047 → a / 2 ^ 52 < 2047
below_field a b h k = omega arith

module _ (x r : Float) (X : T (fits binary64 x)) (P : T (positive x)) where
  pub judged_nearest : NearestOfThree x r → NearestRoot x r
  judged_nearest j = record { held = j.held; above_zero = j.above_zero; below_larger = larger; above_smaller = smaller }
    where
      larger : (y : Float) → T (number y) → T (lt r y) → Under x r y
      larger y n l = go (zero_or_positive y n)
        where
          R : Read r (to_bits binary64 r)
          R = read r j.held j.above_zero

          go : HasValue y false 0 (2 ^ 1074) ⊎ T (positive y) → Under x r y
          go (inl v) = absurd (not-le_of_lt (of_lt r y (val (to_bits binary64 r)) 0 R.value v l) (least (val (to_bits binary64 r))))
          go (inr p) =
              let Y = read y (fits_of y n) p in
              let c : to_bits binary64 r < to_bits binary64 y = val_back (to_bits binary64 r) (to_bits binary64 y) (of_lt r y (val (to_bits binary64 r)) (val (to_bits binary64 y)) R.value Y.value l) in
              let d : to_bits binary64 r + 1 ≤ to_bits binary64 y = omega arith in
              let v = has_val (to_bits binary64 r + 1) (below_field (to_bits binary64 r + 1) (to_bits binary64 y) d Y.field) in
              let q = positive_of_value (of_bits binary64 (to_bits binary64 r + 1)) (val (to_bits binary64 r + 1)) (2 ^ 1074) v (lt_of_le_of_lt (least (val (to_bits binary64 r))) (val_step (to_bits binary64 r))) in
              farther_up x r (of_bits binary64 (to_bits binary64 r + 1)) y (val (to_bits binary64 x)) (val (to_bits binary64 r)) (val (to_bits binary64 r + 1)) (val (to_bits binary64 y)) (read x X P).value R.value v Y.value
              (val_mono (to_bits binary64 r + 1) (to_bits binary64 y) d) (j.below_next q)

      smaller : (y : Float) → T (number y) → T (lt y r) → Over x r y
      smaller y n l = go (zero_or_positive y n)
        where
          R : Read r (to_bits binary64 r)
          R = read r j.held j.above_zero

          v : HasValue (of_bits binary64 (to_bits binary64 r - 1)) false (val (to_bits binary64 r - 1)) (2 ^ 1074)
          v = let u : to_bits binary64 r - 1 ≤ to_bits binary64 r = omega arith in has_val (to_bits binary64 r - 1) (below_field (to_bits binary64 r - 1) (to_bits binary64 r) u R.field)

          far : (N : ℕ) → HasValue y false N (2 ^ 1074) → N ≤ val (to_bits binary64 r - 1) → Over x r y
          far N w h =
              farther_down x r (of_bits binary64 (to_bits binary64 r - 1)) y (val (to_bits binary64 x)) (val (to_bits binary64 r)) (val (to_bits binary64 r - 1)) N (read x X P).value R.value v w h j.above_prior

          go : HasValue y false 0 (2 ^ 1074) ⊎ T (positive y) → Over x r y
          go (inl w) = far 0 w (least (val (to_bits binary64 r - 1)))
          go (inr p) =
              let Y = read y (fits_of y n) p in
              let c : to_bits binary64 y < to_bits binary64 r = val_back (to_bits binary64 y) (to_bits binary64 r) (of_lt y r (val (to_bits binary64 y)) (val (to_bits binary64 r)) Y.value R.value l) in
              let d : to_bits binary64 y ≤ to_bits binary64 r - 1 = omega arith in
              far (val (to_bits binary64 y)) Y.value (val_mono (to_bits binary64 y) (to_bits binary64 r - 1) d)

pub nearest_judged : (x r : Float) → NearestRoot x r → NearestOfThree x r
nearest_judged x r h =
    let R = read r h.held h.above_zero in
    let b = to_bits binary64 r in
    let s : 0 < to_bits binary64 r = val_back 0 b R.some in
    let u : b - 1 ≤ b = omega arith in
    let e : b - 1 + 1 ≡ b = omega arith in
    let v = has_val (b - 1) (below_field (b - 1) b u R.field) in
    let w : val (b - 1) < val b = subst (λ (z : ℕ). val (b - 1) < val z) e (val_step (b - 1)) in
    record {
      held = h.held;
      above_zero = h.above_zero;
      below_next = λ (p : T (positive (of_bits binary64 (b + 1)))). h.below_larger (of_bits binary64 (b + 1)) (number_of (of_bits binary64 (b + 1)) (positive_plain (of_bits binary64 (b + 1)) p) (of_bits-fits binary64 (b + 1))) (lt_of r (of_bits binary64 (b + 1)) (val b) (val (b + 1)) R.value (read_bits (b + 1) p).value (val_step b));
      above_prior = h.above_smaller (of_bits binary64 (b - 1)) (number_of (of_bits binary64 (b - 1)) (plain_of (of_bits binary64 (b - 1)) (val (b - 1)) (2 ^ 1074) v) (of_bits-fits binary64 (b - 1))) (lt_of (of_bits binary64 (b - 1)) r (val (b - 1)) (val b) v R.value w);
    }
