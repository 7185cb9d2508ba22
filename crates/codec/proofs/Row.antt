-- A row of numbers of given widths: as code reads and writes it, field by field; and the way there and back.
use mathlib.Core.Path.{◌≡◌, refl, sym, ap, ◌∙◌}
use mathlib.Core.List.{List, [], ◌∷◌, ◌++◌, append_assoc}
use Prim.Native.Nat.{ℕ, zero, suc, ◌+◌, ◌^◌, ◌≤◌, ◌<◌}
use native.Mathlib.Nat.{add_assoc, suc_inj}
use native.Mathlib.Omega.{arith}
use lib.Dec.{T, ltb, lt→ltb, ltb→lt}
use lib.ListN.{length, take, drop, get_or, length-append, length-drop, drop_of_length-le}
use lib.Seq.{drop-drop, drop-cons, length-take-le, take-add}
use lib.Ieee.Fits.{and_i, and_l, and_r}
use Rattle.codec.specs.Lists.{put, part, every}
use Rattle.codec.specs.Bytes.{le, unle, bytes_fit, total, enc, nums, fit_all}
use Rattle.codec.proofs.Lists.{put_nil, put_next, put_length, every_take, every_drop, every_append}
use Rattle.codec.proofs.Bytes.{length_le, le_fit, unle_le, le_unle, first_lt, take_le, drop_le}

-- ---- as code reads it: each field by its own place, at + k
abbrev pub nums_at : List ℕ → List ℕ → ℕ → ℕ → List ℕ
nums_at [] l at k = []
nums_at (w ∷ ws) l at k = unle (part l (at + k) w) ∷ nums_at ws l at (k + w)

pub nums_at_lem : (ws l : List ℕ) (at k : ℕ) → nums ws (drop (at + k) l) ≡ nums_at ws l at k
unfolding nums part
nums_at_lem [] l at k = refl
nums_at_lem (w ∷ ws) l at k =
    ap (λ (d : List ℕ). unle (take w (drop (at + k) l)) ∷ nums ws d) (drop-drop w (at + k) l ∙ ap (λ (i : ℕ). drop i l) (add_assoc at k w))
    ∙ ap (λ (r : List ℕ). unle (take w (drop (at + k) l)) ∷ r) (nums_at_lem ws l at (k + w))

pub row_at : (w : ℕ) (ws l : List ℕ) (at : ℕ) → nums (w ∷ ws) (drop at l) ≡ unle (part l at w) ∷ nums_at ws l at w
unfolding nums part
row_at w ws l at =
    ap (λ (d : List ℕ). unle (take w (drop at l)) ∷ nums ws d) (drop-drop w at l)
    ∙ ap (λ (r : List ℕ). unle (take w (drop at l)) ∷ r) (nums_at_lem ws l at w)

-- ---- as code writes it: one `put` after another
abbrev pub puts : List ℕ → ℕ → ℕ → List ℕ → List ℕ → List ℕ
puts l at k [] ns = l
puts l at k (w ∷ ws) [] = l
puts l at k (w ∷ ws) (n ∷ ns) = puts (put l (at + k) (le w n)) at (k + w) ws ns

pub length_enc : (ws ns : List ℕ) → length ws ≡ length ns → length (enc ws ns) ≡ total ws
unfolding enc total
length_enc [] ns e = refl
length_enc (w ∷ ws) [] e = absurd (omega arith)
length_enc (w ∷ ws) (n ∷ ns) e = length-append (le w n) (enc ws ns) ∙ omega (arith, length_le w n, length_enc ws ns (suc_inj e))

put_rows : (l : List ℕ) (at k : ℕ) (ws ns : List ℕ) → length ws ≡ length ns → at + k + total ws ≤ length l → puts l at k ws ns ≡ put l (at + k) (enc ws ns)
unfolding enc total
put_rows l at k [] ns e h = sym (put_nil l (at + k))
put_rows l at k (w ∷ ws) [] e h = absurd (omega arith)
put_rows l at k (w ∷ ws) (n ∷ ns) e h =
    put_rows (put l (at + k) (le w n)) at (k + w) ws ns (suc_inj e) (omega (arith, length_le w n, put_length l (at + k) (le w n) (omega (arith, length_le w n))))
    ∙ ap (λ (i : ℕ). put (put l (at + k) (le w n)) i (enc ws ns)) (sym (add_assoc at k w))
    ∙ put_next l (at + k) w (le w n) (enc ws ns) (length_le w n) (omega (arith, length_enc ws ns (suc_inj e)))

pub put_row : (l : List ℕ) (at w n : ℕ) (ws ns : List ℕ) → length ws ≡ length ns → at + (w + total ws) ≤ length l
    → puts (put l at (le w n)) at w ws ns ≡ put l at (enc (w ∷ ws) (n ∷ ns))
unfolding enc
put_row l at w n ws ns e h =
    put_rows (put l at (le w n)) at w ws ns e (omega (arith, put_length l at (le w n) (omega (arith, length_le w n))))
    ∙ put_next l at w (le w n) (enc ws ns) (length_le w n) (omega (arith, length_enc ws ns e))

-- ---- there and back
pub fit_nil : T (fit_all [] [])
unfolding fit_all
fit_nil = tt

pub fit_cons : (w n : ℕ) (ws ns : List ℕ) → n < 256 ^ w → T (fit_all ws ns) → T (fit_all (w ∷ ws) (n ∷ ns))
unfolding fit_all
fit_cons w n ws ns h t = and_i (ltb n (256 ^ w)) (fit_all ws ns) (lt→ltb n (256 ^ w) h) t

-- the ith number fits the ith width
pub fit_at : (ws ns : List ℕ) (i : ℕ) → T (fit_all ws ns) → i < length ws → get_or ns i 0 < 256 ^ get_or ws i 0
unfolding fit_all
fit_at [] ns i t h = absurd (omega arith)
fit_at (w ∷ ws) [] i t h = absurd t
fit_at (w ∷ ws) (n ∷ ns) zero t h = ltb→lt n (256 ^ w) (and_l (ltb n (256 ^ w)) (fit_all ws ns) t)
fit_at (w ∷ ws) (n ∷ ns) (suc i) t h = fit_at ws ns i (and_r (ltb n (256 ^ w)) (fit_all ws ns) t) (omega arith)

-- what is written are bytes
pub enc_fit : (ws ns : List ℕ) → T (bytes_fit (enc ws ns))
unfolding enc every
enc_fit [] ns = tt
enc_fit (w ∷ ws) [] = tt
enc_fit (w ∷ ws) (n ∷ ns) = every_append _ (le w n) (enc ws ns) (le_fit w n) (enc_fit ws ns)

-- reading what was written gives the same numbers, whatever follows
pub nums_enc : (ws ns r : List ℕ) → T (fit_all ws ns) → nums ws (enc ws ns ++ r) ≡ ns
unfolding nums enc fit_all
nums_enc [] [] r t = refl
nums_enc [] (n ∷ ns) r t = absurd t
nums_enc (w ∷ ws) [] r t = absurd t
nums_enc (w ∷ ws) (n ∷ ns) r t =
    let h : n < 256 ^ w = ltb→lt n (256 ^ w) (and_l (ltb n (256 ^ w)) (fit_all ws ns) t) in
    rw (append_assoc (le w n) (enc ws ns) r, take_le, drop_le, unle_le w n h)
    (ap (λ (q : List ℕ). n ∷ q) (nums_enc ws ns r (and_r (ltb n (256 ^ w)) (fit_all ws ns) t)))

-- writing what was read gives the same bytes
pub enc_nums : (ws l : List ℕ) → total ws ≤ length l → T (bytes_fit l) → enc ws (nums ws l) ≡ take (total ws) l
unfolding nums enc total
enc_nums [] l h b = refl
enc_nums (w ∷ ws) l h b =
    ap (λ (q : List ℕ). q ++ enc ws (nums ws (drop w l))) (le_unle w (take w l) (length-take-le w l (omega arith)) (every_take _ w l b))
    ∙ ap (λ (q : List ℕ). take w l ++ q) (enc_nums ws (drop w l) (omega (arith, length-drop w l)) (every_drop _ w l b))
    ∙ sym (take-add w (total ws) l)

-- what was read fits
pub nums_fit : (ws l : List ℕ) → total ws ≤ length l → T (bytes_fit l) → T (fit_all ws (nums ws l))
unfolding nums fit_all total
nums_fit [] l h b = tt
nums_fit (w ∷ ws) l h b =
    fit_cons w (unle (take w l)) ws (nums ws (drop w l)) (first_lt w l (omega arith) b)
    (nums_fit ws (drop w l) (omega (arith, length-drop w l)) (every_drop _ w l b))

-- ---- in parts
pub length_nums : (ws l : List ℕ) → length (nums ws l) ≡ length ws
unfolding nums
length_nums [] l = refl
length_nums (w ∷ ws) l = ap suc (length_nums ws (drop w l))

-- ---- a list by its places, from the i-th on
abbrev pub listed : ℕ → List ℕ → ℕ → List ℕ
listed zero l i = []
listed (suc n) l i = get_or l i 0 ∷ listed n l (suc i)

listed_drop : (n : ℕ) (l : List ℕ) (i : ℕ) → length l ≡ i + n → listed n l i ≡ drop i l
listed_drop zero l i e = let h : length l ≤ i = omega arith in sym (drop_of_length-le l h)
listed_drop (suc n) l i e = ap (λ (x : List ℕ). get_or l i 0 ∷ x) (listed_drop n l (suc i) (omega arith)) ∙ sym (drop-cons l i 0 (omega arith))

pub listed_all : (n : ℕ) (l : List ℕ) → length l ≡ n → listed n l 0 ≡ l
listed_all n l e = listed_drop n l 0 (omega arith)

-- ---- a row in two parts
pub enc_append : (ws vs ns ms : List ℕ) → length ws ≡ length ns → enc (ws ++ vs) (ns ++ ms) ≡ enc ws ns ++ enc vs ms
unfolding enc
enc_append [] vs [] ms e = refl
enc_append [] vs (n ∷ ns) ms e = absurd (let z : ⊥ = omega arith in z)
enc_append (w ∷ ws) vs [] ms e = absurd (let z : ⊥ = omega arith in z)
enc_append (w ∷ ws) vs (n ∷ ns) ms e =
    ap (λ (l : List ℕ). le w n ++ l) (enc_append ws vs ns ms (suc_inj e)) ∙ sym (append_assoc (le w n) (enc ws ns) (enc vs ms))

pub put_more : (l m k : List ℕ) (at : ℕ) (ws vs ns ms : List ℕ) → length ws ≡ length ns → length vs ≡ length ms → at + total ws + total vs ≤ length l →
    m ≡ put l at (enc ws ns) → k ≡ put m (at + total ws) (enc vs ms) → k ≡ put l at (enc (ws ++ vs) (ns ++ ms))
put_more l m k at ws vs ns ms e f h p q =
    q
    ∙ ap (λ (s : List ℕ). put s (at + total ws) (enc vs ms)) p
    ∙ put_next l at (total ws) (enc ws ns) (enc vs ms) (length_enc ws ns e) (omega (arith, length_enc vs ms f, h))
    ∙ ap (put l at) (sym (enc_append ws vs ns ms e))
