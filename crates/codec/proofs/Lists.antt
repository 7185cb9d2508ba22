-- Laws of `put`, `part` and `every`, over lists of anything.
use mathlib.Core.Path.{◌≡◌, refl, sym, ap, ◌∙◌}
use mathlib.Core.List.{List, [], ◌∷◌, ◌++◌, append_assoc, append-nil}
use mathlib.Core.Bool.{Bool}
use Prim.Native.Nat.{ℕ, zero, suc, ◌+◌, ◌-◌, ◌≤◌, ◌<◌}
use native.Mathlib.Nat.{add-zero}
use native.Mathlib.Numerals.{add-one}
use native.Mathlib.Omega.{arith}
use lib.Dec.{T}
use lib.Ieee.Fits.{and_i, and_l, and_r}
use lib.ListN.{length, take, drop, get_or, set, length-append, length-drop, take-append-drop, drop_of_length-le, get_or-append}
use lib.Seq.{append_snoc, set_split, drop-cons, length-take-le, take_at, drop_at, drop-drop, take-take, get_or-take, get_or-drop}
use Rattle.codec.specs.Lists.{put, part, every}

module _ {A : Type 0} where
  -- ---- lengths
  pub put_length : (l : List A) (at : ℕ) (vs : List A) → at + length vs ≤ length l → length (put l at vs) ≡ length l
  unfolding put
  put_length l at vs h = simp (length-append, length-drop) (omega (arith, length-take-le at l (omega arith)))

  pub part_length : (l : List A) (at n : ℕ) → at + n ≤ length l → length (part l at n) ≡ n
  unfolding part
  part_length l at n h = length-take-le n (drop at l) (omega (arith, length-drop at l))

  -- ---- a part of what is left of a list
  pub part_drop : (l : List A) (at i n : ℕ) → part (drop at l) i n ≡ part l (at + i) n
  unfolding part
  part_drop l at i n = ap (take n) (drop-drop i at l)

  pub part_take : (k : ℕ) (l : List A) (at n : ℕ) → at + n ≤ k → part (take k l) at n ≡ part l at n
  unfolding part
  part_take k l zero n h = take-take n k l (omega arith)
  part_take zero l (suc at) n h = absurd (omega arith)
  part_take (suc k) [] (suc at) n h = refl
  part_take (suc k) (x ∷ l) (suc at) n h = part_take k l at n (omega arith)

  -- ---- what stands before, at and after what was put
  pub take_put : (l : List A) (at : ℕ) (vs : List A) → at ≤ length l → take at (put l at vs) ≡ take at l
  unfolding put
  take_put l at vs h =
      ap (take at) (append_assoc (take at l) vs (drop (at + length vs) l))
      ∙ take_at (take at l) (vs ++ drop (at + length vs) l) at (length-take-le at l h)

  -- so a law that holds "whatever follows" speaks of what a writer left
  pub drop_put : (l : List A) (at : ℕ) (vs : List A) → at ≤ length l → drop at (put l at vs) ≡ vs ++ drop (at + length vs) l
  unfolding put
  drop_put l at vs h =
      ap (drop at) (append_assoc (take at l) vs (drop (at + length vs) l))
      ∙ drop_at (take at l) (vs ++ drop (at + length vs) l) at (length-take-le at l h)

  pub drop_past : (l : List A) (at : ℕ) (vs : List A) → at ≤ length l → drop (at + length vs) (put l at vs) ≡ drop (at + length vs) l
  drop_past l at vs h =
      sym (drop-drop (length vs) at (put l at vs))
      ∙ ap (drop (length vs)) (drop_put l at vs h)
      ∙ drop_at vs (drop (at + length vs) l) (length vs) refl

  pub part_put : (l : List A) (at : ℕ) (vs : List A) (n : ℕ) → length vs ≡ n → at ≤ length l → part (put l at vs) at n ≡ vs
  unfolding part
  part_put l at vs n e h = ap (take n) (drop_put l at vs h) ∙ take_at vs (drop (at + length vs) l) n e

  -- ---- the same, element by element
  module _ (l : List A) (at : ℕ) (vs : List A) (i : ℕ) (d : A) (h : at ≤ length l) where
    pub put_before : i < at → get_or (put l at vs) i d ≡ get_or l i d
    put_before b =
        sym (get_or-take at (put l at vs) i d b) ∙ ap (λ (q : List A). get_or q i d) (take_put l at vs h) ∙ get_or-take at l i d b

    pub put_inside : i < length vs → get_or (put l at vs) (at + i) d ≡ get_or vs i d
    put_inside b =
        sym (get_or-drop at (put l at vs) i d)
        ∙ ap (λ (q : List A). get_or q i d) (drop_put l at vs h)
        ∙ get_or-append vs (drop (at + length vs) l) d i b

    pub put_after : at + length vs ≤ i → get_or (put l at vs) i d ≡ get_or l i d
    put_after b =
        let k : ℕ = at + length vs in
        let e : k + (i - k) ≡ i = omega arith in
        ap (λ (n : ℕ). get_or (put l at vs) n d) (sym e)
        ∙ sym (get_or-drop k (put l at vs) (i - k) d)
        ∙ ap (λ (q : List A). get_or q (i - k) d) (drop_past l at vs h)
        ∙ get_or-drop k l (i - k) d
        ∙ ap (λ (n : ℕ). get_or l n d) e

  -- ---- nothing put, everything put, one `put` after another
  pub put_nil : (l : List A) (at : ℕ) → put l at [] ≡ l
  unfolding put
  put_nil l at =
      ap (λ (k : ℕ). take at l ++ [] ++ drop k l) (add-zero at)
      ∙ ap (λ (r : List A). r ++ drop at l) (append-nil (take at l))
      ∙ take-append-drop at l

  pub put_whole : (l vs : List A) → length vs ≡ length l → put l 0 vs ≡ vs
  unfolding put
  put_whole l vs e =
      let h : length l ≤ 0 + length vs = omega arith in
      ap (λ (r : List A). vs ++ r) (drop_of_length-le l h) ∙ append-nil vs

  pub put_next : (l : List A) (at n : ℕ) (vs ws : List A) → length vs ≡ n → at + n + length ws ≤ length l → put (put l at vs) (at + n) ws ≡ put l at (vs ++ ws)
  unfolding put
  put_next l at n vs ws e h =
      let p : List A = take at l ++ vs in
      let d : List A = drop (at + length vs) l in
      let k : at + length vs + length ws ≡ at + length (vs ++ ws) = omega (arith, length-append vs ws) in
      let lp : length p ≡ at + n = length-append (take at l) vs ∙ omega (arith, length-take-le at l (omega arith)) in
      ap (λ (q : List A). q ++ ws ++ drop (at + n + length ws) (p ++ d)) (take_at p d (at + n) lp)
      ∙ ap (λ (q : List A). p ++ ws ++ q)
      (sym (drop-drop (length ws) (at + n) (p ++ d)) ∙ ap (drop (length ws)) (drop_at p d (at + n) lp) ∙ drop-drop (length ws) (at + length vs) l)
      ∙ ap (λ (q : List A). q ++ drop (at + length vs + length ws) l) (append_assoc (take at l) vs ws)
      ∙ ap (λ (k : ℕ). take at l ++ (vs ++ ws) ++ drop k l) k

  -- ---- one element
  pub put_one : (l : List A) (at : ℕ) (v : A) → at < length l → set l at v ≡ put l at (v ∷ [])
  unfolding put
  put_one l at v h =
      set_split l at v h
      ∙ sym (append_snoc (take at l) v (drop (suc at) l))
      ∙ ap (λ (k : ℕ). take at l ++ (v ∷ []) ++ drop k l) (sym (add-one at))

  pub part_one : (l : List A) (at : ℕ) (d : A) → at < length l → part l at 1 ≡ get_or l at d ∷ []
  unfolding part
  part_one l at d h = ap (take 1) (drop-cons l at d h)

  -- ---- a test of every element
  module _ (p : A → Bool) where
    pub every_cons : (x : A) (l : List A) → T (p x) → T (every p l) → T (every p (x ∷ l))
    unfolding every
    every_cons x l a b = and_i (p x) (every p l) a b

    pub every_take : (n : ℕ) (l : List A) → T (every p l) → T (every p (take n l))
    unfolding every
    every_take zero l t = tt
    every_take (suc n) [] t = tt
    every_take (suc n) (x ∷ l) t =
        and_i (p x) (every p (take n l)) (and_l (p x) (every p l) t) (every_take n l (and_r (p x) (every p l) t))

    pub every_drop : (n : ℕ) (l : List A) → T (every p l) → T (every p (drop n l))
    unfolding every
    every_drop zero l t = t
    every_drop (suc n) [] t = tt
    every_drop (suc n) (x ∷ l) t = every_drop n l (and_r (p x) (every p l) t)

    pub every_append : (l r : List A) → T (every p l) → T (every p r) → T (every p (l ++ r))
    unfolding every
    every_append [] r a b = b
    every_append (x ∷ l) r a b =
        and_i (p x) (every p (l ++ r)) (and_l (p x) (every p l) a) (every_append l r (and_r (p x) (every p l) a) b)

    pub every_at : (l : List A) (i : ℕ) (d : A) → T (every p l) → i < length l → T (p (get_or l i d))
    unfolding every
    every_at [] i d t h = absurd (omega arith)
    every_at (x ∷ l) zero d t h = and_l (p x) (every p l) t
    every_at (x ∷ l) (suc i) d t h = every_at l i d (and_r (p x) (every p l) t) (omega arith)

    pub every_of : (l : List A) (d : A) → ((i : ℕ) → i < length l → T (p (get_or l i d))) → T (every p l)
    unfolding every
    every_of [] d h = tt
    every_of (x ∷ l) d h =
        and_i (p x) (every p l) (h zero (omega arith)) (every_of l d (λ i b. h (suc i) (omega arith)))
