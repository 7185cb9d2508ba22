-- The loops over a store, stated once over the width and the element: what each has done before its turn i, and what a turn adds.
use mathlib.Core.Path.{◌≡◌, refl, sym, ap, ◌∙◌}
use mathlib.Core.List.{List, [], ◌∷◌, ◌++◌, append-nil}
use mathlib.Core.Bool.{Bool, true, false, ◌&&◌, and-true, and-false}
use Prim.Native.Nat.{ℕ, suc, ◌+◌, ◌-◌, ◌*◌, ◌≤◌, ◌<◌}
use native.Mathlib.Nat.{mul-suc, mul-le-mul_left}
use native.Mathlib.Numerals.{add-one}
use native.Mathlib.Omega.{arith}
use lib.ListN.{length, take, drop, get_or, set, replicate, length-replicate, drop_of_length-le}
use lib.Seq.{length-take-le, take-suc, take_all, drop-cons, set_at, append_snoc}
use Rattle.codec.specs.Lists.{put, part}
use Rattle.codec.specs.Bytes.{le, unle, bytes_of, elements_of, all_pass, enc, nums}
use Rattle.codec.proofs.Lists.{put_nil, put_next, part_drop}
use Rattle.codec.proofs.Bytes.{length_le}
use Rattle.codec.proofs.Elements.{length_bytes_of, bytes_of_append, length_elements_of, elements_of_add, all_pass_add, enc_same, nums_same}

-- ---- writing
module _ {A : Type 0} (w : ℕ) (f : A → ℕ) (l : List ℕ) (at : ℕ) (xs : List A) where
  pub written_none : l ≡ put l at (bytes_of w f (take 0 xs))
  unfolding bytes_of
  written_none = sym (put_nil l at)

  pub written_more : (i : ℕ) {out new : List ℕ} (x : A) → at + w * length xs ≤ length l → i < length xs → x ≡ get_or xs i x
      → out ≡ put l at (bytes_of w f (take i xs)) → new ≡ put out (at + w * i) (le w (f x)) → new ≡ put l at (bytes_of w f (take (i + 1) xs))
  unfolding bytes_of
  written_more i {out} {new} x r h q k e =
      let long : length (bytes_of w f (take i xs)) ≡ w * i = length_bytes_of w f (take i xs) ∙ ap (λ (n : ℕ). w * n) (length-take-le i xs (omega arith)) in
      e
      ∙ ap (λ (o : List ℕ). put o (at + w * i) (le w (f x))) k
      ∙ put_next l at (w * i) (bytes_of w f (take i xs)) (le w (f x)) long (omega (arith, length_le w (f x), mul-suc w i, mul-le-mul_left w h))
      ∙ ap (λ (q : List ℕ). put l at (bytes_of w f (take i xs) ++ q)) (sym (append-nil (le w (f x))))
      ∙ ap (put l at) (sym (bytes_of_append w f (take i xs) (x ∷ [])))
      ∙ ap (λ (q : List A). put l at (bytes_of w f q))
      (ap (λ (y : A). take i xs ++ (y ∷ [])) q ∙ sym (take-suc xs i x h) ∙ ap (λ (n : ℕ). take n xs) (sym (add-one i)))

-- numbers of one width, from an array of as many
pub row_written : (w : ℕ) (l : List ℕ) (at : ℕ) (ns ws : List ℕ) → ws ≡ replicate (length ns) w → {out : List ℕ} {i : ℕ} → length ns ≤ i
    → out ≡ put l at (bytes_of w (λ n. n) (take i ns)) → out ≡ put l at (enc ws ns)
row_written w l at ns ws same {out} {i} h k =
    k
    ∙ ap (λ (q : List ℕ). put l at (bytes_of w (λ n. n) q)) (take_all i ns h)
    ∙ ap (put l at) (sym (enc_same w ns) ∙ ap (λ (q : List ℕ). enc q ns) (sym same))

-- ---- reading
-- the ith element's bytes from `at` on
nth : (w : ℕ) (s : List ℕ) (at i : ℕ) → part s (at + w * i) w ≡ take w (drop (w * i) (drop at s))
unfolding part
nth w s at i = sym (part_drop s at (w * i) w)

module _ {A : Type 0} (w : ℕ) (g : ℕ → A) (s : List ℕ) (at : ℕ) (xs : List A) where
  pub filled_more : (i : ℕ) {new : List A} {v : A} → i < length xs → new ≡ elements_of w g i (drop at s) ++ drop i xs → v ≡ g (unle (part s (at + w * i) w))
      → set new i v ≡ elements_of w g (i + 1) (drop at s) ++ drop (i + 1) xs
  unfolding elements_of
  filled_more i {new} {v} h k e =
      let l : List ℕ = drop at s in
      let y : List A = elements_of w g i l in
      ap (λ (o : List A). set o i v) (k ∙ ap (λ (r : List A). y ++ r) (drop-cons xs i v h))
      ∙ set_at y (get_or xs i v) (drop (suc i) xs) v i (length_elements_of w g i l)
      ∙ sym (append_snoc y v (drop (suc i) xs))
      ∙ ap (λ (z : A). y ++ (z ∷ []) ++ drop (suc i) xs) (e ∙ ap (λ (b : List ℕ). g (unle b)) (nth w s at i))
      ∙ ap (λ (r : List A). r ++ drop (suc i) xs) (sym (elements_of_add w g i 1 l))
      ∙ ap (λ (k : ℕ). elements_of w g (i + 1) l ++ drop k xs) (sym (add-one i))

-- numbers of one width, into an array that held zeros
module _ (w n : ℕ) (s : List ℕ) (at : ℕ) where
  pub row_none : replicate n 0 ≡ elements_of w (λ k. k) 0 (drop at s) ++ replicate n 0
  unfolding elements_of
  row_none = refl

  pub row_more : (i : ℕ) {new : List ℕ} {v : ℕ} → i < n → new ≡ elements_of w (λ k. k) i (drop at s) ++ drop i (replicate n 0) → v ≡ unle (part s (at + w * i) w)
      → set new i v ≡ elements_of w (λ k. k) (i + 1) (drop at s) ++ drop (i + 1) (replicate n 0)
  row_more i h k e = filled_more w (λ k. k) s at (replicate n 0) i (simp length-replicate h) k e

  pub row_all : {i : ℕ} {new : List ℕ} → n ≡ i → new ≡ elements_of w (λ k. k) i (drop at s) ++ drop i (replicate n 0) → new ≡ nums (replicate n w) (drop at s)
  row_all {i} e k =
      let short : length (replicate n 0) ≤ n = simp length-replicate (omega arith) in
      let none : drop n (replicate n 0) ≡ [] = drop_of_length-le (replicate n 0) short in
      k
      ∙ ap (λ (j : ℕ). elements_of w (λ k. k) j (drop at s) ++ drop j (replicate n 0)) (sym e)
      ∙ ap (λ (r : List ℕ). elements_of w (λ k. k) n (drop at s) ++ r) none
      ∙ append-nil (elements_of w (λ k. k) n (drop at s))
      ∙ sym (nums_same w n (drop at s))

-- ---- judging
module _ (w : ℕ) (p : ℕ → Bool) (s : List ℕ) (at : ℕ) where
  pub passed_more : (i : ℕ) → all_pass w p i (drop at s) ≡ true → p (unle (part s (at + w * i) w)) ≡ true → all_pass w p (i + 1) (drop at s) ≡ true
  unfolding all_pass
  passed_more i k h =
      all_pass_add w p i 1 (drop at s)
      ∙ ap (λ (t : Bool). t && all_pass w p 1 (drop (w * i) (drop at s))) k
      ∙ and-true (p (unle (take w (drop (w * i) (drop at s)))))
      ∙ ap (λ (q : List ℕ). p (unle q)) (sym (nth w s at i))
      ∙ h

  pub passed_stop : (n i : ℕ) → i < n → p (unle (part s (at + w * i) w)) ≡ false → all_pass w p n (drop at s) ≡ false
  unfolding all_pass
  passed_stop n i b h =
      let e : n ≡ i + suc (n - i - 1) = omega arith in
      let l : List ℕ = drop (w * i) (drop at s) in
      ap (λ (k : ℕ). all_pass w p k (drop at s)) e
      ∙ all_pass_add w p i (suc (n - i - 1)) (drop at s)
      ∙ ap (λ (t : Bool). all_pass w p i (drop at s) && (t && all_pass w p (n - i - 1) (drop w l)))
      (ap (λ (q : List ℕ). p (unle q)) (sym (nth w s at i)) ∙ h)
      ∙ and-false (all_pass w p i (drop at s))
