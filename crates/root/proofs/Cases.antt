-- The values whose root is no matter of rounding, as the tests in the code tell them apart.
use mathlib.Core.Path.{◌≡◌, refl, sym, ap, ◌∙◌, subst}
use mathlib.Core.Logic.{inl, inr}
use Prim.Native.Nat.{ℕ, zero, suc, ◌+◌, ◌*◌, ◌<◌}
use native.Mathlib.Nat.{zero-mul, eq-zero-or-pos, mul-pos, zero-lt-suc}
use native.Mathlib.Omega.{arith}
use mathlib.Core.Bool.{Bool, true, false, true≢false}
use lib.IntN.{ℤ, pos}
use lib.Dec.{T, eqb, eqb→eq, ltb→lt, lt→ltb}
use lib.Ieee.{Float, nan, inf, fin, binary64, up, down, is_nan, eq, lt, of_bits}
use lib.Ieee.Fits.{and_i, and_l, up_pos, eq→eqb}
use denote.Floats.{passes}
use lib.Ieee.Positive.{positive}
use Rattle.root.specs.Root.{NearestRoot, IsRoot}

-- the constants as the code has them
zero_is : of_bits binary64 0 ≡ fin false 0 (pos 0)
unfolding of_bits
zero_is = refl

nan_is : of_bits binary64 0x7FF8000000000000 ≡ nan
unfolding of_bits
nan_is = refl

inf_is : of_bits binary64 0x7FF0000000000000 ≡ inf false
unfolding of_bits
inf_is = refl

pub at_nan : (x : Float) → is_nan x ≡ true → IsRoot x x
unfolding is_nan
at_nan nan h = refl
at_nan (inf s) h = absurd (true≢false (sym h))
at_nan (fin s m e) h = absurd (true≢false (sym h))

-- x == 0.0
grow : (m : ℕ) (e : ℤ) → m * up e * 1 ≡ zero * 1 * down e → m ≡ zero
grow m e h = elim (eq-zero-or-pos m) [ inl z ↦ z | inr p ↦ absurd (no (m * up e) (down e) (mul-pos p (up_pos e)) h) ]
  where
    no : (a d : ℕ) → 0 < a → a * 1 ≡ zero * 1 * d → ⊥
    no a d p k = let z : zero * 1 * d ≡ 0 = zero-mul d in omega arith

zero_root : (s : Bool) (m : ℕ) (e : ℤ) → m ≡ zero → IsRoot (fin s m e) (fin s m e)
zero_root s m e h = subst (λ (n : ℕ). IsRoot (fin s n e) (fin s n e)) (sym h) refl

zero_by : (x : Float) → T (eq x (fin false 0 (pos 0))) → IsRoot x x
unfolding eq
zero_by nan h = absurd h
zero_by (inf s) h = absurd h
zero_by (fin s m e) h = zero_root s m e (grow m e (eqb→eq (m * up e * 1) (0 * 1 * down e) (and_l (eqb (m * up e * 1) (0 * 1 * down e)) _ h)))

pub at_zero : (x : Float) → eq x (of_bits binary64 0) ≡ true → IsRoot x x
at_zero x h = zero_by x (subst (λ (y : Float). T (eq x y)) zero_is (passes (eq x (of_bits binary64 0)) h))

-- x < 0.0
negative_by : (x : Float) → T (lt x (fin false 0 (pos 0))) → IsRoot x nan
unfolding lt
negative_by nan h = absurd h
negative_by (inf true) h = refl
negative_by (inf false) h = absurd h
negative_by (fin true zero e) h = absurd (no (up e) (down e) (ltb→lt 0 (zero * up e * 1 + 0 * 1 * down e) h))
  where
    no : (a d : ℕ) → 0 < zero * a * 1 + 0 * 1 * d → ⊥
    no a d k = let y : zero * a ≡ 0 = zero-mul a in let z : 0 * 1 * d ≡ 0 = zero-mul d in omega arith
negative_by (fin true (suc m) e) h = refl
negative_by (fin false m e) h = absurd (no (m * up e * 1) (down e) (ltb→lt (m * up e * 1) (0 * 1 * down e) h))
  where
    no : (a d : ℕ) → a < 0 * 1 * d → ⊥
    no a d k = let z : 0 * 1 * d ≡ 0 = zero-mul d in omega arith

pub at_negative : (x : Float) → lt x (of_bits binary64 0) ≡ true → IsRoot x (of_bits binary64 0x7FF8000000000000)
at_negative x h = subst (λ (y : Float). IsRoot x y) (sym nan_is) (negative_by x (subst (λ (y : Float). T (lt x y)) zero_is (passes (lt x (of_bits binary64 0)) h)))

-- x is the infinity
inf_by : (x : Float) → T (eq x (inf false)) → IsRoot x x
unfolding eq
inf_by nan h = absurd h
inf_by (inf true) h = absurd h
inf_by (inf false) h = refl
inf_by (fin s m e) h = absurd h

pub at_inf : (x : Float) → eq x (of_bits binary64 0x7FF0000000000000) ≡ true → IsRoot x x
at_inf x h = inf_by x (subst T (ap (eq x) inf_is) (passes (eq x (of_bits binary64 0x7FF0000000000000)) h))

-- and what is left
refuse : (b : Bool) → T b → b ≡ false → ⊥
refuse b t e = subst T e t

level_zero : (a d : ℕ) → T (eqb (zero * a * 1) (0 * 1 * d)) × T (eqb (zero * a * 1) 0)
level_zero a d =
    let y : zero * a ≡ 0 = zero-mul a in
    let z : 0 * 1 * d ≡ 0 = zero-mul d in
    let g : zero * a * 1 ≡ 0 * 1 * d = omega arith in
    let h : zero * a * 1 ≡ 0 = omega arith in
    (eq→eqb g, eq→eqb h)

positive_sum : (a d : ℕ) → 0 < a → 0 < a * 1 + 0 * 1 * d
positive_sum a d h = omega arith

left_over : (x : Float) → is_nan x ≡ false → eq x (fin false 0 (pos 0)) ≡ false → lt x (fin false 0 (pos 0)) ≡ false → eq x (inf false) ≡ false → T (positive x)
unfolding is_nan eq lt
left_over nan a b c d = absurd (true≢false a)
left_over (inf true) a b c d = absurd (true≢false c)
left_over (inf false) a b c d = absurd (true≢false d)
left_over (fin true zero e) a b c d = let l = level_zero (up e) (down e) in absurd (refuse _ (and_i (eqb (zero * up e * 1) (0 * 1 * down e)) (eqb (zero * up e * 1) 0) l.0 l.1) b)
left_over (fin true (suc m) e) a b c d = absurd (refuse _ (lt→ltb 0 (suc m * up e * 1 + 0 * 1 * down e) (positive_sum (suc m * up e) (down e) (mul-pos (zero-lt-suc m) (up_pos e)))) c)
left_over (fin false zero e) a b c d = let l = level_zero (up e) (down e) in absurd (refuse _ (and_i (eqb (zero * up e * 1) (0 * 1 * down e)) true l.0 tt) b)
left_over (fin false (suc m) e) a b c d = lt→ltb 0 (suc m) (zero-lt-suc m)

pub rest : (x : Float) → is_nan x ≡ false → eq x (of_bits binary64 0) ≡ false → lt x (of_bits binary64 0) ≡ false → eq x (of_bits binary64 0x7FF0000000000000) ≡ false → T (positive x)
rest x a b c d = left_over x a (ap (eq x) (sym zero_is) ∙ b) (ap (lt x) (sym zero_is) ∙ c) (ap (eq x) (sym inf_is) ∙ d)

pub at_positive : (x r : Float) → T (positive x) → NearestRoot x r → IsRoot x r
at_positive nan r p h = absurd p
at_positive (inf s) r p h = absurd p
at_positive (fin true m e) r p h = absurd p
at_positive (fin false zero e) r p h = absurd p
at_positive (fin false (suc m) e) r p h = h
