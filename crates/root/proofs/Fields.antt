-- What the bit pattern of a positive double says of its value, and which double a pattern makes.
use mathlib.Core.Path.{◌≡◌, refl, sym, ap, ◌∙◌, subst}
use Prim.Native.Nat.{ℕ, zero, suc, ◌+◌, ◌-◌, ◌*◌, ◌/◌, ◌%◌, ◌^◌, ◌≤◌, ◌<◌}
use native.Mathlib.Nat.{mul-one, mod-eq_of_lt, lt_of_not-le, not-le_of_lt}
use native.Mathlib.Decide.{dec_le}
use native.Mathlib.Omega.{arith}
use mathlib.Core.Bool.{Bool, true, false, not, cond}
use lib.Dec.{T, leb, eqb, le→leb, leb→le, eqb→eq, not_T}
use lib.Pow.{pow_pos}
use lib.Ieee.{Float, nan, inf, fin, binary64, odd, of_fields, of_bits, nan_bits, to_bits, fits, is_nan}
use borrow.Author.Tests.{le-ltb}
use lib.Ieee.Fits.{eq→eqb}
use lib.Ieee.Bits.{of_bits-to_bits, nan_bits_above, is_true, is_false}
use lib.Ieee.Exact.{HasValue, odd_sign}
use lib.Ieee.Positive.{positive, value_pos}
use Rattle.root.specs.Inner.Steps.{units_of}

-- ---- no pattern with the sign set is a positive double's
odd_neg : (d q k l : ℕ) → T (positive (odd d true q k l)) → ⊥
unfolding odd
odd_neg d zero k l p = p
odd_neg d (suc q) k l p = p

fields_neg : (x t : ℕ) → T (positive (of_fields binary64 true x t)) → ⊥
unfolding of_fields
fields_neg zero t p = odd_neg 53 t 0 1074 p
fields_neg (suc x) t p = go (eqb (suc x) 2047) (eqb t 0) p
  where
    go : (a b : Bool) → T (positive (cond a (cond b (inf true) nan) (odd 53 true (2 ^ 52 + t) x 1074))) → ⊥
    go true true q = q
    go true false q = q
    go false b q = odd_neg 53 (2 ^ 52 + t) x 1074 q

-- ---- the size of the double of two fields
fields_pos : (f t : ℕ) → T (positive (of_fields binary64 false f t)) → (f ≡ 2047 → ⊥) × HasValue (of_fields binary64 false f t) false (units_of f t) (2 ^ 1074)
unfolding of_fields
fields_pos zero t p = (no, subst (λ (n : ℕ). HasValue (odd 53 false t 0 1074) false n (2 ^ 1074)) (mul-one t) (odd_sign 53 false t 0 1074))
  where
    no : zero ≡ 2047 → ⊥
    no e = omega arith
fields_pos (suc g) t p = go (eqb (suc g) 2047) (eqb t 0) eq→eqb p
  where
    pick : Bool → Bool → Float
    pick a b = cond a (cond b (inf false) nan) (odd 53 false (2 ^ 52 + t) g 1074)

    go : (a b : Bool) → (suc g ≡ 2047 → T a) → T (positive (pick a b)) → (suc g ≡ 2047 → ⊥) × HasValue (pick a b) false ((2 ^ 52 + t) * 2 ^ g) (2 ^ 1074)
    go true true k q = absurd q
    go true false k q = absurd q
    go false b k q = (k, odd_sign 53 false (2 ^ 52 + t) g 1074)

pub fields_at : (g t : ℕ) → suc g < 2047 → HasValue (of_fields binary64 false (suc g) t) false ((2 ^ 52 + t) * 2 ^ g) (2 ^ 1074)
unfolding of_fields
fields_at g t h = go (eqb (suc g) 2047) (eqb t 0) (eqb→eq (suc g) 2047)
  where
    no : (n : ℕ) → n < 2047 → n ≡ 2047 → ⊥
    no n u e = omega arith

    go : (a b : Bool) → (T a → suc g ≡ 2047) → HasValue (cond a (cond b (inf false) nan) (odd 53 false (2 ^ 52 + t) g 1074)) false ((2 ^ 52 + t) * 2 ^ g) (2 ^ 1074)
    go true b k = absurd (no (suc g) h (k tt))
    go false b k = odd_sign 53 false (2 ^ 52 + t) g 1074

-- ---- a pattern's fields
bits_are : (b : ℕ) → of_bits binary64 b ≡ of_fields binary64 (leb (2 ^ 63) b) (b % 2 ^ 63 / 2 ^ 52) (b % 2 ^ 52)
unfolding of_bits
bits_are b = refl

pub sign_clear : (b : ℕ) → b < 2 ^ 63 → of_bits binary64 b ≡ of_fields binary64 false (b / 2 ^ 52) (b % 2 ^ 52)
sign_clear b u =
    bits_are b
    ∙ ap (λ (s : Bool). of_fields binary64 s (b % 2 ^ 63 / 2 ^ 52) (b % 2 ^ 52)) (is_false (leb (2 ^ 63) b) (not_T (leb (2 ^ 63) b) (λ (t : T (leb (2 ^ 63) b)). not-le_of_lt u (leb→le (2 ^ 63) b t))))
    ∙ ap (λ (x : ℕ). of_fields binary64 false (x / 2 ^ 52) (b % 2 ^ 52)) (mod-eq_of_lt u)

clear_of : (b : ℕ) → T (positive (of_bits binary64 b)) → b < 2 ^ 63
clear_of b p = go (dec_le (2 ^ 63) b)
  where
    go : Dec (2 ^ 63 ≤ b) → b < 2 ^ 63
    go (no u) = lt_of_not-le u
    go (yes u) =
        absurd (fields_neg (b % 2 ^ 63 / 2 ^ 52) (b % 2 ^ 52)
        (subst (λ (x : Float). T (positive x)) (bits_are b ∙ ap (λ (s : Bool). of_fields binary64 s (b % 2 ^ 63 / 2 ^ 52) (b % 2 ^ 52)) (is_true (leb (2 ^ 63) b) (le→leb (2 ^ 63) b u))) p))

-- what a positive double's pattern says
pub record Read (x : Float) (b : ℕ) : Type 0 where
  pub field : b / 2 ^ 52 < 2047
  pub value : HasValue x false (units_of (b / 2 ^ 52) (b % 2 ^ 52)) (2 ^ 1074)
  pub some : 0 < units_of (b / 2 ^ 52) (b % 2 ^ 52)

pub read_bits : (b : ℕ) → T (positive (of_bits binary64 b)) → Read (of_bits binary64 b) b
read_bits b p =
    let u = clear_of b p in
    let e = sign_clear b u in
    let f = fields_pos (b / 2 ^ 52) (b % 2 ^ 52) (subst (λ (x : Float). T (positive x)) e p) in
    let v = subst (λ (x : Float). HasValue x false (units_of (b / 2 ^ 52) (b % 2 ^ 52)) (2 ^ 1074)) (sym e) f.1 in
    record {
      field = below b u f.0;
      value = v;
      some = value_pos (of_bits binary64 b) (units_of (b / 2 ^ 52) (b % 2 ^ 52)) (2 ^ 1074) p (pow_pos 1074) v;
    }
  where
    last : (n : ℕ) → n < 2048 → (2047 ≤ n → ⊥) → n < 2047
    last n u k = lt_of_not-le k

    exactly : (n : ℕ) → n < 2048 → 2047 ≤ n → n ≡ 2047
    exactly n u k = omega arith

    below : (n : ℕ) → n < 2 ^ 63 → (n / 2 ^ 52 ≡ 2047 → ⊥) → n / 2 ^ 52 < 2047
    below n u k = let w : n / 2 ^ 52 < 2048 = omega arith in last (n / 2 ^ 52) w (λ (z : 2047 ≤ n / 2 ^ 52). k (exactly (n / 2 ^ 52) w z))

pub read : (x : Float) → T (fits binary64 x) → T (positive x) → Read x (to_bits binary64 x)
read x f p =
    let e = of_bits-to_bits binary64 x f in
    subst (λ (y : Float). Read y (to_bits binary64 x)) e (read_bits (to_bits binary64 x) (subst (λ (y : Float). T (positive y)) (sym e) p))

-- the double of the fields F + 1 and q without its first digit
pub made : (F q : ℕ) → F < 2046 → 2 ^ 52 ≤ q → q < 2 ^ 53 → HasValue (of_bits binary64 (F * 2 ^ 52 + q)) false (q * 2 ^ F) (2 ^ 1074)
made F q u l h =
    let b = F * 2 ^ 52 + q in
    let c : b < 2 ^ 63 = omega arith in
    let f : b / 2 ^ 52 ≡ suc F = omega arith in
    let t : b % 2 ^ 52 ≡ q - 2 ^ 52 = omega arith in
    let g : 2 ^ 52 + (q - 2 ^ 52) ≡ q = omega arith in
    let s : suc F < 2047 = omega arith in
    let e = sign_clear b c ∙ ap (λ (n : ℕ). of_fields binary64 false n (b % 2 ^ 52)) f ∙ ap (λ (n : ℕ). of_fields binary64 false (suc F) n) t in
    subst (λ (x : Float). HasValue x false (q * 2 ^ F) (2 ^ 1074)) (sym e)
    (subst (λ (n : ℕ). HasValue (of_fields binary64 false (suc F) (q - 2 ^ 52)) false (n * 2 ^ F) (2 ^ 1074)) g (fields_at F (q - 2 ^ 52) s))

-- ---- no positive double is a NaN
pub no_nan : (x : Float) → T (positive x) → T (not (is_nan x))
unfolding is_nan
no_nan nan p = absurd p
no_nan (inf s) p = absurd p
no_nan (fin s m e) p = tt

-- and no pattern with an exponent field below the last is one
pub number_bits : (b : ℕ) → b < 2047 * 2 ^ 52 → T (not (nan_bits binary64 b))
number_bits b h =
    let l : b % 2 ^ 63 ≤ 2047 * 2 ^ 52 = omega arith in
    subst (λ (t : Bool). T (not t)) (sym (nan_bits_above binary64 b ∙ le-ltb (2047 * 2 ^ 52) (b % 2 ^ 63) l)) tt
