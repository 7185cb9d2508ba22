-- Laws of a store's bytes, stated once over the width and the element: lengths and joins, and the way there and back.
use mathlib.Core.Path.{◌≡◌, refl, sym, ap, ◌∙◌}
use mathlib.Core.List.{List, [], ◌∷◌, ◌++◌, append_assoc}
use mathlib.Core.Bool.{Bool, true, ◌&&◌, and_assoc, and-eq-true_iff}
use Prim.Native.Nat.{ℕ, zero, suc, ◌+◌, ◌*◌, ◌^◌, ◌≤◌, ◌<◌}
use native.Mathlib.Nat.{mul-zero, mul-suc, suc-add, zero-add}
use native.Mathlib.Omega.{arith}
use lib.Dec.{T}
use lib.Ieee.Fits.{and_l, and_r}
use lib.ListN.{length, take, drop, replicate, length-append, length-drop}
use lib.Seq.{length-take-le, drop-drop, take-add}
use Rattle.codec.specs.Lists.{every}
use Rattle.codec.specs.Bytes.{le, unle, bytes_fit, bytes_of, elements_of, all_pass, enc, nums}
use Rattle.codec.proofs.Lists.{every_cons, every_append, every_take, every_drop}
use Rattle.codec.proofs.Bytes.{length_le, le_fit, unle_le, le_unle, first_lt, take_le, drop_le}

-- ---- writing
module _ {A : Type 0} (w : ℕ) (f : A → ℕ) where
  pub length_bytes_of : (xs : List A) → length (bytes_of w f xs) ≡ w * length xs
  unfolding bytes_of
  length_bytes_of [] = sym (mul-zero w)
  length_bytes_of (x ∷ xs) =
      length-append (le w (f x)) (bytes_of w f xs) ∙ omega (arith, length_le w (f x), length_bytes_of xs, mul-suc w (length xs))

  pub bytes_of_append : (xs ys : List A) → bytes_of w f (xs ++ ys) ≡ bytes_of w f xs ++ bytes_of w f ys
  unfolding bytes_of
  bytes_of_append [] ys = refl
  bytes_of_append (x ∷ xs) ys =
      ap (λ (r : List ℕ). le w (f x) ++ r) (bytes_of_append xs ys) ∙ sym (append_assoc (le w (f x)) (bytes_of w f xs) (bytes_of w f ys))

  pub bytes_of_fit : (xs : List A) → T (bytes_fit (bytes_of w f xs))
  unfolding bytes_of every
  bytes_of_fit [] = tt
  bytes_of_fit (x ∷ xs) = every_append _ (le w (f x)) (bytes_of w f xs) (le_fit w (f x)) (bytes_of_fit xs)

-- ---- reading
drop_more : (w n : ℕ) (l : List ℕ) → drop (w * n) (drop w l) ≡ drop (w * suc n) l
drop_more w n l =
    let e : w + w * n ≡ w * suc n = omega (arith, mul-suc w n) in drop-drop (w * n) w l ∙ ap (λ (k : ℕ). drop k l) e

drop_zero : (w : ℕ) (l : List ℕ) → drop (w * 0) l ≡ l
drop_zero w l = ap (λ (k : ℕ). drop k l) (mul-zero w)

module _ {A : Type 0} (w : ℕ) (g : ℕ → A) where
  pub length_elements_of : (n : ℕ) (l : List ℕ) → length (elements_of w g n l) ≡ n
  unfolding elements_of
  length_elements_of zero l = refl
  length_elements_of (suc n) l = ap suc (length_elements_of n (drop w l))

  pub elements_of_add : (m n : ℕ) (l : List ℕ) → elements_of w g (m + n) l ≡ elements_of w g m l ++ elements_of w g n (drop (w * m) l)
  unfolding elements_of
  elements_of_add zero n l =
      ap (λ (k : ℕ). elements_of w g k l) (zero-add n) ∙ ap (elements_of w g n) (sym (drop_zero w l))
  elements_of_add (suc m) n l =
      ap (λ (k : ℕ). elements_of w g k l) (suc-add m n)
      ∙ ap (λ (r : List A). g (unle (take w l)) ∷ r)
      (elements_of_add m n (drop w l) ∙ ap (λ (d : List ℕ). elements_of w g m (drop w l) ++ elements_of w g n d) (drop_more w m l))

-- ---- judging
module _ (w : ℕ) (p : ℕ → Bool) where
  pub all_pass_add : (m n : ℕ) (l : List ℕ) → all_pass w p (m + n) l ≡ all_pass w p m l && all_pass w p n (drop (w * m) l)
  unfolding all_pass
  all_pass_add zero n l = ap (λ (k : ℕ). all_pass w p k l) (zero-add n) ∙ ap (all_pass w p n) (sym (drop_zero w l))
  all_pass_add (suc m) n l =
      ap (λ (k : ℕ). all_pass w p k l) (suc-add m n)
      ∙ ap (λ (t : Bool). p (unle (take w l)) && t)
      (all_pass_add m n (drop w l) ∙ ap (λ (d : List ℕ). all_pass w p m (drop w l) && all_pass w p n d) (drop_more w m l))
      ∙ sym (and_assoc (p (unle (take w l))) (all_pass w p m (drop w l)) (all_pass w p n (drop (w * suc m) l)))

pub all_pass_any : (w n : ℕ) (l : List ℕ) → all_pass w (λ _. true) n l ≡ true
unfolding all_pass
all_pass_any w zero l = refl
all_pass_any w (suc n) l = all_pass_any w n (drop w l)

-- ---- there and back
module _ {A : Type 0} (w : ℕ) (f : A → ℕ) (ok : A → Bool) where
  -- reading what was written gives the same elements, whatever follows
  pub elements_back : (g : ℕ → A) → ((x : A) → T (ok x) → (f x < 256 ^ w) × (g (f x) ≡ x))
      → (xs : List A) (r : List ℕ) → T (every ok xs) → elements_of w g (length xs) (bytes_of w f xs ++ r) ≡ xs
  unfolding elements_of bytes_of every
  elements_back g good [] r t = refl
  elements_back g good (x ∷ xs) r t =
      let h = good x (and_l (ok x) (every ok xs) t) in
      rw (append_assoc (le w (f x)) (bytes_of w f xs) r, take_le, drop_le, unle_le w (f x) h.0, h.1)
      (ap (λ (q : List A). x ∷ q) (elements_back g good xs r (and_r (ok x) (every ok xs) t)))

  -- and what was written passes
  pub pass_back : (p : ℕ → Bool) → ((x : A) → T (ok x) → (f x < 256 ^ w) × (p (f x) ≡ true))
      → (xs : List A) (r : List ℕ) → T (every ok xs) → all_pass w p (length xs) (bytes_of w f xs ++ r) ≡ true
  unfolding all_pass bytes_of every
  pass_back p good [] r t = refl
  pass_back p good (x ∷ xs) r t =
      let h = good x (and_l (ok x) (every ok xs) t) in
      rw (append_assoc (le w (f x)) (bytes_of w f xs) r, take_le, drop_le, unle_le w (f x) h.0, h.1)
      (pass_back p good xs r (and_r (ok x) (every ok xs) t))

module _ {A : Type 0} (w : ℕ) (g : ℕ → A) where
  -- writing what passed and was read gives the same bytes
  pub bytes_back : (f : A → ℕ) (p : ℕ → Bool) → ((b : ℕ) → b < 256 ^ w → p b ≡ true → f (g b) ≡ b)
      → (n : ℕ) (l : List ℕ) → w * n ≤ length l → T (bytes_fit l) → all_pass w p n l ≡ true → bytes_of w f (elements_of w g n l) ≡ take (w * n) l
  unfolding elements_of bytes_of all_pass
  bytes_back f p good zero l h b a = ap (λ (k : ℕ). take k l) (sym (mul-zero w))
  bytes_back f p good (suc n) l h b a =
      let t = (and-eq-true_iff (p (unle (take w l))) (all_pass w p n (drop w l))).0 a in
      let m : w + w * n ≤ length l = omega (arith, mul-suc w n) in
      let e : w + w * n ≡ w * suc n = omega (arith, mul-suc w n) in
      ap (λ (k : ℕ). le w k ++ bytes_of w f (elements_of w g n (drop w l))) (good (unle (take w l)) (first_lt w l (omega arith) b) t.0)
      ∙ ap (λ (q : List ℕ). q ++ bytes_of w f (elements_of w g n (drop w l))) (le_unle w (take w l) (length-take-le w l (omega arith)) (every_take _ w l b))
      ∙ ap (λ (q : List ℕ). take w l ++ q) (bytes_back f p good n (drop w l) (omega (arith, length-drop w l)) (every_drop _ w l b) t.1)
      ∙ sym (take-add w (w * n) l)
      ∙ ap (λ (k : ℕ). take k l) e

  -- what was read fits
  pub elements_fit : (ok : A → Bool) → ((b : ℕ) → b < 256 ^ w → T (ok (g b)))
      → (n : ℕ) (l : List ℕ) → w * n ≤ length l → T (bytes_fit l) → T (every ok (elements_of w g n l))
  unfolding elements_of every
  elements_fit ok good zero l h b = tt
  elements_fit ok good (suc n) l h b =
      let m : w + w * n ≤ length l = omega (arith, mul-suc w n) in
      every_cons ok (g (unle (take w l))) (elements_of w g n (drop w l))
      (good (unle (take w l)) (first_lt w l (omega arith) b))
      (elements_fit ok good n (drop w l) (omega (arith, length-drop w l)) (every_drop _ w l b))

-- ---- a row whose widths are all the same
pub enc_same : (w : ℕ) (ns : List ℕ) → enc (replicate (length ns) w) ns ≡ bytes_of w (λ n. n) ns
unfolding enc bytes_of
enc_same w [] = refl
enc_same w (n ∷ ns) = ap (λ (r : List ℕ). le w n ++ r) (enc_same w ns)

pub nums_same : (w n : ℕ) (l : List ℕ) → nums (replicate n w) l ≡ elements_of w (λ n. n) n l
unfolding nums elements_of
nums_same w zero l = refl
nums_same w (suc n) l = ap (λ (r : List ℕ). unle (take w l) ∷ r) (nums_same w n (drop w l))
