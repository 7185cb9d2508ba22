-- Digits as code makes them, one division at a time. Assumes nothing.
use Prim.Native.Nat.{ℕ, zero, suc, ◌+◌, ◌-◌, ◌/◌, ◌%◌, ◌^◌, ◌≤◌, ◌<◌}
use native.Mathlib.Nat.{pow-suc, div-lt_iff_lt-mul, zero-lt-suc}
use native.Mathlib.Omega.{arith}
use mathlib.Core.Path.{◌≡◌, refl, ap, ◌∙◌, subst}
use mathlib.Core.Bool.{Bool, true, false, cond}
use mathlib.Core.List.{List, [], ◌∷◌, ◌++◌}
use borrow.Author.Tests.{lt-ltb, le-ltb, ltb-true, ltb-false}
use lib.Dec.{ltb}
use lib.ListN.{length, length-append}
use Rattle.lines.specs.Listing.{glyph, hex_digits, decimal_in, decimal}

-- ---- a digit, as the branch of the code gives it
pub low_glyph : (d : ℕ) → d < 10 → 48 + d ≡ glyph d
low_glyph d h = rw (lt-ltb d 10 h)

pub high_glyph : (d : ℕ) → 10 ≤ d → 55 + d ≡ glyph d
high_glyph d h = rw (le-ltb d 10 h)

-- ---- hex
pub hex_long : (w n : ℕ) → length (hex_digits w n) ≡ w
unfolding hex_digits
hex_long zero n = refl
hex_long (suc w) n = length-append (hex_digits w (n / 16)) (glyph (n % 16) ∷ []) ∙ omega (arith, hex_long w (n / 16))

pub hex_none : (w n : ℕ) → w ≤ 0 → hex_digits w n ≡ []
unfolding hex_digits
hex_none zero n h = refl
hex_none (suc w) n h = absurd (omega arith)

pub hex_more : (w n : ℕ) → 0 < w → hex_digits (w - 1) (n / 16) ++ (glyph (n % 16) ∷ []) ≡ hex_digits w n
unfolding hex_digits
hex_more zero n h = absurd (omega arith)
hex_more (suc w) n h = let e : suc w - 1 ≡ w = omega arith in ap (λ (k : ℕ). hex_digits k (n / 16) ++ (glyph (n % 16) ∷ [])) e

-- ---- decimal
abbrev pick : (t : Bool) (n : ℕ) → List ℕ → List ℕ
pick t n high = cond t (glyph n ∷ []) (high ++ (glyph (n % 10) ∷ []))

-- more turns than n give the same digits
enough : (s t n : ℕ) → n < s → n < t → decimal_in s n ≡ decimal_in t n
unfolding decimal_in
enough zero t n h k = absurd (omega arith)
enough (suc s) zero n h k = absurd (omega arith)
enough (suc s) (suc t) n h k = go (ltb n 10) refl (λ l. enough s t (n / 10) (omega (arith, l)) (omega (arith, l)))
  where
    go : (u : Bool) → ltb n 10 ≡ u → (10 ≤ n → decimal_in s (n / 10) ≡ decimal_in t (n / 10)) →
        pick (ltb n 10) n (decimal_in s (n / 10)) ≡ pick (ltb n 10) n (decimal_in t (n / 10))
    go true e r = rw e
    go false e r = ap (pick (ltb n 10) n) (r (ltb-false n 10 e))

pub decimal_one : (n : ℕ) → n < 10 → decimal n ≡ glyph n ∷ []
unfolding decimal decimal_in
decimal_one n h = ap (λ (t : Bool). pick t n (decimal_in n (n / 10))) (lt-ltb n 10 h)

pub decimal_more : (n : ℕ) → 10 ≤ n → decimal n ≡ decimal (n / 10) ++ (glyph (n % 10) ∷ [])
unfolding decimal decimal_in
decimal_more n h =
    ap (λ (t : Bool). pick t n (decimal_in n (n / 10))) (le-ltb n 10 h)
    ∙ ap (λ (l : List ℕ). l ++ (glyph (n % 10) ∷ [])) (enough n (suc (n / 10)) (n / 10) (omega arith) (omega arith))

pub one_long : (n : ℕ) → n < 10 → length (decimal n) ≡ 1
one_long n h = ap length (decimal_one n h)

pub more_long : (n : ℕ) → 10 ≤ n → length (decimal n) ≡ length (decimal (n / 10)) + 1
more_long n h = ap length (decimal_more n h) ∙ length-append (decimal (n / 10)) (glyph (n % 10) ∷ [])

short : (k n : ℕ) → n < 10 ^ suc k → length (decimal n) ≤ suc k
short zero n h = omega (arith, one_long n h)
short (suc k) n h = go (ltb n 10) refl (short k (n / 10) ((div-lt_iff_lt-mul (zero-lt-suc 9)).1 (subst (λ (x : ℕ). n < x) (pow-suc 10 (suc k)) h)))
  where
    go : (t : Bool) → ltb n 10 ≡ t → length (decimal (n / 10)) ≤ suc k → length (decimal n) ≤ suc (suc k)
    go true e r = omega (arith, one_long n (ltb-true n 10 e))
    go false e r = omega (arith, more_long n (ltb-false n 10 e))

-- a u32 has ten digits at most
pub ten_digits : (n : ℕ) → n < 4294967296 → length (decimal n) ≤ 10
ten_digits n h = short 9 n (let z : n < 10000000000 = omega arith in z)
