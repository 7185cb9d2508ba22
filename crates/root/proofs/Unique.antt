-- Two doubles of one size are one double, and a value has one root.
use mathlib.Core.Path.{◌≡◌, refl, sym, ap, ◌∙◌, subst}
use Prim.Native.Nat.{ℕ, zero, suc, ◌+◌, ◌-◌, ◌*◌, ◌/◌, ◌^◌, ◌≤◌, ◌<◌}
use native.Mathlib.Nat.{le_antisymm, lt_trans, lt_irrefl, add_comm, mul_comm, mul_right_comm, eq_of_mul-eq-mul_right}
use mathlib.Core.Bool.{true, false}
use lib.Dec.{T, ltb, not_T, nltb→le}
use lib.Ieee.{Float, nan, inf, fin, binary64, size, fits, lt, of_bits, to_bits}
use lib.Ieee.Bits.{of_bits-to_bits}
use lib.Ieee.Exact.{HasValue}
use lib.Ieee.Nearest.{div_same}
use lib.Ieee.Positive.{num, den, den_pos, value→cross}
use Rattle.root.specs.Root.{number, mid, wide, Under, Over, NearestRoot, IsRoot}
use Rattle.root.proofs.Nearest.{plain, positive_plain, lt_is}

-- ---- the bit pattern of a double that is not negative, from its size in units of 2 ^ -1074
pattern : ℕ → ℕ
pattern n = 0 + (size n - 53) * 2 ^ 52 + n / 2 ^ (size n - 53)

pattern_is : (x : Float) → T (plain x) → to_bits binary64 x ≡ pattern (num x * 2 ^ 1074 / den x)
unfolding to_bits pattern
pattern_is nan p = absurd p
pattern_is (inf s) p = absurd p
pattern_is (fin true m e) p = absurd p
pattern_is (fin false m e) p = refl

pub same : (x y : Float) → T (plain x) → T (plain y) → T (fits binary64 x) → T (fits binary64 y) → num x * den y ≡ num y * den x → x ≡ y
same x y p q f g e =
    sym (of_bits-to_bits binary64 x f)
    ∙ ap (of_bits binary64)
    (pattern_is x p
    ∙ ap pattern
    (div_same (num x * 2 ^ 1074) (den x) (num y * 2 ^ 1074) (den y) (den_pos x) (den_pos y)
    (mul_right_comm (num x) (2 ^ 1074) (den y) ∙ ap (λ (z : ℕ). z * 2 ^ 1074) e ∙ mul_right_comm (num y) (den x) (2 ^ 1074)))
    ∙ sym (pattern_is y q))
    ∙ of_bits-to_bits binary64 y g

pub same_value : (x y : Float) (N U : ℕ) → 0 < U → T (plain x) → T (plain y) → T (fits binary64 x) → T (fits binary64 y) → HasValue x false N U → HasValue y false N U → x ≡ y
same_value x y N U u p q f g v w =
    same x y p q f g
    (eq_of_mul-eq-mul_right U u (num x * den y) (num y * den x)
    (mul_right_comm (num x) (den y) U
    ∙ ap (λ (z : ℕ). z * den y) (value→cross x N U v)
    ∙ mul_right_comm N (den x) (den y)
    ∙ ap (λ (z : ℕ). z * den x) (sym (value→cross y N U w))
    ∙ mul_right_comm (num y) U (den x)))

-- ---- a value has one root
pub number_of : (y : Float) → T (plain y) → T (fits binary64 y) → T (number y)
number_of nan p f = absurd p
number_of (inf s) p f = absurd p
number_of (fin true m e) p f = absurd p
number_of (fin false m e) p f = f

not_lt : (x y : Float) → T (plain x) → T (plain y) → (T (lt x y) → ⊥) → num y * den x ≤ num x * den y
not_lt x y p q h = nltb→le (num x * den y) (num y * den x) (not_T (ltb (num x * den y) (num y * den x)) (λ (t : T (ltb (num x * den y) (num y * den x))). h (subst T (sym (lt_is x y p q)) t)))

-- a midpoint of the two would lie on both sides of the root
apart : (x r s : Float) → NearestRoot x r → NearestRoot x s → T (lt r s) → ⊥
apart x r s a b l =
    let u : Under x r s = a.below_larger s (number_of s (positive_plain s b.above_zero) b.held) l in
    let o : Over x s r = b.above_smaller r (number_of r (positive_plain r a.above_zero) a.held) l in
    let m : mid s r ≡ mid r s = add_comm (num s * den r) (num r * den s) in
    let w : wide s r ≡ wide r s = ap (λ (z : ℕ). 2 * z) (mul_comm (den s) (den r)) in
    lt_irrefl (num x * (wide r s * wide r s))
    (lt_trans u (subst (λ (z : ℕ). mid r s * mid r s * den x < num x * (z * z)) w (subst (λ (z : ℕ). z * z * den x < num x * (wide s r * wide s r)) m o)))

pub nearest_unique : (x r s : Float) → NearestRoot x r → NearestRoot x s → r ≡ s
nearest_unique x r s a b =
    let p = positive_plain r a.above_zero in
    let q = positive_plain s b.above_zero in
    same r s p q a.held b.held (le_antisymm (not_lt s r q p (apart x s r b a)) (not_lt r s p q (apart x r s a b)))

pub unique : (x r s : Float) → IsRoot x r → IsRoot x s → r ≡ s
unique nan r s a b = a ∙ sym b
unique (inf true) r s a b = a ∙ sym b
unique (inf false) r s a b = a ∙ sym b
unique (fin true zero e) r s a b = a ∙ sym b
unique (fin false zero e) r s a b = a ∙ sym b
unique (fin true (suc m) e) r s a b = a ∙ sym b
unique (fin false (suc m) e) r s a b = nearest_unique (fin false (suc m) e) r s a b
