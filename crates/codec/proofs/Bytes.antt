-- Laws of `le` and `unle`: each is the other's way back.
use mathlib.Core.Path.{◌≡◌, refl, sym, ap, ◌∙◌, subst}
use mathlib.Core.List.{List, [], ◌∷◌, ◌++◌}
use Prim.Native.Nat.{ℕ, zero, suc, ◌+◌, ◌*◌, ◌/◌, ◌%◌, ◌^◌, ◌≤◌, ◌<◌}
use native.Mathlib.Nat.{pow-suc, pow-succ', one-le-pow, div-div-eq-div-mul, div-lt_iff_lt-mul, mul_assoc, zero-lt-suc, zero-add, suc-add}
use native.Mathlib.Omega.{arith}
use lib.Arith.{mod-mul}
use lib.Dec.{T, ltb, ltb→lt, lt→ltb}
use lib.Ieee.Fits.{and_i, and_l, and_r}
use lib.ListN.{length, take, drop}
use lib.Seq.{take_at, drop_at, drop-drop, length-take-le, take-add}
use Rattle.codec.specs.Lists.{put, part, every}
use Rattle.codec.specs.Bytes.{le, unle, bytes_fit}
use Rattle.codec.proofs.Lists.{put_next, part_put, part_length, every_take}

-- the lowest byte first: 1388 is 5 * 256 + 108
pub low_first : le 4 1388 ≡ 108 ∷ 5 ∷ 0 ∷ 0 ∷ []
unfolding le
low_first = refl

pub length_le : (w n : ℕ) → length (le w n) ≡ w
unfolding le
length_le zero n = refl
length_le (suc w) n = ap suc (length_le w (n / 256))

pub le_fit : (w n : ℕ) → T (bytes_fit (le w n))
unfolding le every
le_fit zero n = tt
le_fit (suc w) n = and_i (ltb (n % 256) 256) (bytes_fit (le w (n / 256))) (lt→ltb (n % 256) 256 (omega arith)) (le_fit w (n / 256))

pub unle_le : (w n : ℕ) → n < 256 ^ w → unle (le w n) ≡ n
unfolding le unle
unle_le zero n h = omega arith
unle_le (suc w) n h =
    let e = unle_le w (n / 256) ((div-lt_iff_lt-mul (zero-lt-suc 255)).1 (subst (λ (x : ℕ). n < x) (pow-suc 256 w) h)) in
    omega (arith, e)

pub le_unle : (w : ℕ) (l : List ℕ) → length l ≡ w → T (bytes_fit l) → le w (unle l) ≡ l
unfolding le unle every
le_unle zero [] e t = refl
le_unle zero (x ∷ l) e t = absurd (omega arith)
le_unle (suc w) [] e t = absurd (omega arith)
le_unle (suc w) (x ∷ l) e t =
    let h : x < 256 = ltb→lt x 256 (and_l (ltb x 256) (bytes_fit l) t) in
    let m : (x + unle l * 256) % 256 ≡ x = omega arith in
    let d : (x + unle l * 256) / 256 ≡ unle l = omega arith in
    ap (λ (y : ℕ). y ∷ le w ((x + unle l * 256) / 256)) m
    ∙ ap (λ (y : ℕ). x ∷ le w y) d
    ∙ ap (λ (r : List ℕ). x ∷ r) (le_unle w l (omega arith) (and_r (ltb x 256) (bytes_fit l) t))

pub unle_lt : (l : List ℕ) → T (bytes_fit l) → unle l < 256 ^ length l
unfolding unle every
unle_lt [] t = omega arith
unle_lt (x ∷ l) t =
    let h : x < 256 = ltb→lt x 256 (and_l (ltb x 256) (bytes_fit l) t) in
    let r = unle_lt l (and_r (ltb x 256) (bytes_fit l) t) in
    subst (λ (p : ℕ). x + unle l * 256 < p) (sym (pow-suc 256 (length l))) (omega (arith, h, r))

-- the number of the first w bytes fits w bytes
pub first_lt : (w : ℕ) (l : List ℕ) → w ≤ length l → T (bytes_fit l) → unle (take w l) < 256 ^ w
first_lt w l h t =
    subst (λ (n : ℕ). unle (take w l) < 256 ^ n) (length-take-le w l h) (unle_lt (take w l) (every_take _ w l t))

-- the first w bytes, and the rest, of a number's bytes and what follows them
pub take_le : (w n : ℕ) (r : List ℕ) → take w (le w n ++ r) ≡ le w n
take_le w n r = take_at (le w n) r w (length_le w n)

pub drop_le : (w n : ℕ) (r : List ℕ) → drop w (le w n ++ r) ≡ r
drop_le w n r = drop_at (le w n) r w (length_le w n)

-- ---- a number in two halves, w bytes and v more
pub le_low : (w n : ℕ) → le w (n % 256 ^ w) ≡ le w n
unfolding le
le_low zero n = refl
le_low (suc w) n =
    let q : ℕ = n / 256 % 256 ^ w in
    let e : n % 256 ^ suc w ≡ q * 256 + n % 256 = ap (λ (p : ℕ). n % p) (pow-suc 256 w) ∙ mod-mul n (one-le-pow w 256 (zero-lt-suc 255)) (zero-lt-suc 255) in
    let m : (q * 256 + n % 256) % 256 ≡ n % 256 = omega arith in
    let d : (q * 256 + n % 256) / 256 ≡ q = omega arith in
    ap (λ (k : ℕ). k % 256 ∷ le w (k / 256)) e
    ∙ ap (λ (k : ℕ). k ∷ le w ((q * 256 + n % 256) / 256)) m
    ∙ ap (λ (k : ℕ). n % 256 ∷ le w k) d
    ∙ ap (λ (l : List ℕ). n % 256 ∷ l) (le_low w (n / 256))

le_add : (w v n : ℕ) → le (w + v) n ≡ le w n ++ le v (n / 256 ^ w)
unfolding le
le_add zero v n =
    let e : n ≡ n / 256 ^ zero = omega arith in
    ap (λ (k : ℕ). le k n) (zero-add v) ∙ ap (le v) e
le_add (suc w) v n =
    ap (λ (k : ℕ). le k n) (suc-add w v)
    ∙ ap (λ (l : List ℕ). n % 256 ∷ l) (le_add w v (n / 256))
    ∙ ap (λ (k : ℕ). n % 256 ∷ (le w (n / 256) ++ le v k)) (div-div-eq-div-mul n 256 (256 ^ w) ∙ ap (λ (p : ℕ). n / p) (sym (pow-succ' 256 w)))

unle_append : (l r : List ℕ) → unle (l ++ r) ≡ unle l + unle r * 256 ^ length l
unfolding unle
unle_append [] r = omega arith
unle_append (x ∷ l) r =
    let e : unle r * 256 ^ length l * 256 ≡ unle r * 256 ^ suc (length l) = mul_assoc (unle r) (256 ^ length l) 256 ∙ ap (λ (p : ℕ). unle r * p) (sym (pow-suc 256 (length l))) in
    omega (arith, unle_append l r, e)

-- as code writes them
pub put_halves : (w v : ℕ) (l : List ℕ) (at n : ℕ) → at + (w + v) ≤ length l
    → put (put l at (le w (n % 256 ^ w))) (at + w) (le v (n / 256 ^ w)) ≡ put l at (le (w + v) n)
put_halves w v l at n h =
    ap (λ (q : List ℕ). put (put l at q) (at + w) (le v (n / 256 ^ w))) (le_low w n)
    ∙ put_next l at w (le w n) (le v (n / 256 ^ w)) (length_le w n) (omega (arith, length_le v (n / 256 ^ w)))
    ∙ ap (put l at) (sym (le_add w v n))

-- as code reads them
pub get_halves : (w v : ℕ) (l : List ℕ) (at : ℕ) → at + w ≤ length l → unle (part l at w) + unle (part l (at + w) v) * 256 ^ w ≡ unle (part l at (w + v))
unfolding part
get_halves w v l at h =
    ap (λ (k : ℕ). unle (take w (drop at l)) + unle (take v (drop (at + w) l)) * 256 ^ k) (sym (part_length l at w h))
    ∙ sym (unle_append (take w (drop at l)) (take v (drop (at + w) l)))
    ∙ ap (λ (d : List ℕ). unle (take w (drop at l) ++ take v d)) (sym (drop-drop w at l))
    ∙ ap unle (sym (take-add w v (drop at l)))

-- the contracts together: a `get` answers the number that a `put` of the same width left there
pub get_put : (l : List ℕ) (at w n : ℕ) → at ≤ length l → n < 256 ^ w → unle (part (put l at (le w n)) at w) ≡ n
get_put l at w n h b = ap unle (part_put l at (le w n) w (length_le w n) h) ∙ unle_le w n b
