-- The patterns of floats: which are a NaN's, which are written, and the way there and back.
use mathlib.Core.Path.{◌≡◌, refl, sym, ap, ◌∙◌, subst}
use mathlib.Core.Bool.{Bool, true, false, not, ◌||◌, true≢false}
use Prim.Native.Nat.{ℕ, ◌%◌, ◌^◌, ◌≤◌, ◌<◌}
use borrow.Author.Tests.{lt-ltb, le-ltb, eqb-true}
use lib.Dec.{T, eqb}
use lib.Ieee.{Float, nan, inf, fin, binary64, to_bits, of_bits, nan_bits, is_nan, ne, eq, fits}
use lib.Ieee.Compare.{differs_from_itself}
use lib.Ieee.Bits.{nan_bits_is, nan_bits_above, of_bits-to_bits, to_bits-of_bits}
use Rattle.codec.specs.Bytes.{fine}

-- ---- what the code tests
pub nan_bits_lem : (x : Float) → ne x x ≡ true → 0x7FF8000000000000 ≡ to_bits binary64 x
unfolding to_bits
nan_bits_lem x h = sym (ap (to_bits binary64) (differs_from_itself x (subst T (sym h) tt)))

pub no_nan : (x : Float) → ne x x ≡ false → T (not (is_nan x))
unfolding is_nan ne eq
no_nan nan h = absurd (true≢false h)
no_nan (inf s) h = tt
no_nan (fin s m e) h = tt

pub low_bits : (b : ℕ) → b % 0x8000000000000000 ≤ 0x7FF0000000000000 → nan_bits binary64 b ≡ false
low_bits b h = nan_bits_above binary64 b ∙ le-ltb _ _ h

high_bits : (b : ℕ) → 0x7FF0000000000000 < b % 0x8000000000000000 → nan_bits binary64 b ≡ true
high_bits b h = nan_bits_above binary64 b ∙ lt-ltb _ _ h

pub low_fine : (b : ℕ) → b % 0x8000000000000000 ≤ 0x7FF0000000000000 → true ≡ fine b
unfolding fine
low_fine b h = ap (λ (t : Bool). not t || eqb b 0x7FF8000000000000) (sym (low_bits b h))

pub high_fine : (b : ℕ) → 0x7FF0000000000000 < b % 0x8000000000000000 → eqb b 0x7FF8000000000000 ≡ fine b
unfolding fine
high_fine b h = ap (λ (t : Bool). not t || eqb b 0x7FF8000000000000) (sym (high_bits b h))

is_nan_lem : (x : Float) → is_nan x ≡ true → nan ≡ x
unfolding is_nan
is_nan_lem nan h = refl
is_nan_lem (inf s) h = absurd (true≢false (sym h))
is_nan_lem (fin s m e) h = absurd (true≢false (sym h))

pub high_nan : (b : ℕ) → 0x7FF0000000000000 < b % 0x8000000000000000 → of_bits binary64 0x7FF8000000000000 ≡ of_bits binary64 b
unfolding of_bits
high_nan b h = is_nan_lem (of_bits binary64 b) (sym (nan_bits_is binary64 b) ∙ high_bits b h)

-- document 01's rule in numbers: the one NaN is written so and accepted so; the pattern after it and its negative are refused
pub one_nan : (to_bits binary64 nan ≡ 0x7FF8000000000000) × (fine 0x7FF8000000000000 ≡ true) × (fine 0x7FF8000000000001 ≡ false) × (fine 0xFFF8000000000000 ≡ false)
unfolding to_bits fine nan_bits
one_nan = (refl, refl, refl, refl)

-- ---- there and back
-- what is written for a float is a pattern that is accepted
pub bits_fine : (x : Float) → T (fits binary64 x) → fine (to_bits binary64 x) ≡ true
unfolding fine is_nan to_bits nan_bits
bits_fine nan t = refl
bits_fine (inf s) t =
    ap (λ (b : Bool). not b || eqb (to_bits binary64 (inf s)) 0x7FF8000000000000) (nan_bits_is binary64 _ ∙ ap is_nan (of_bits-to_bits binary64 (inf s) t))
bits_fine (fin s m e) t =
    ap (λ (b : Bool). not b || eqb (to_bits binary64 (fin s m e)) 0x7FF8000000000000) (nan_bits_is binary64 _ ∙ ap is_nan (of_bits-to_bits binary64 (fin s m e) t))

-- and the pattern of an accepted pattern's float is that pattern
pub bits_back : (b : ℕ) → b < 256 ^ 8 → fine b ≡ true → to_bits binary64 (of_bits binary64 b) ≡ b
unfolding fine to_bits of_bits
bits_back b h f = go (nan_bits binary64 b) refl
  where
    go : (t : Bool) → nan_bits binary64 b ≡ t → to_bits binary64 (of_bits binary64 b) ≡ b
    go false e = to_bits-of_bits binary64 b h (subst (λ (t : Bool). T (not t)) (sym (sym (nan_bits_is binary64 b) ∙ e)) tt)
    go true e =
        let q : b ≡ 0x7FF8000000000000 = eqb-true b 0x7FF8000000000000 (sym (ap (λ (t : Bool). not t || eqb b 0x7FF8000000000000) e) ∙ f) in
        subst (λ (n : ℕ). to_bits binary64 (of_bits binary64 n) ≡ n) (sym q) refl
