-- A loop that does F c to block c of a part of a store, for c from a on, is `in_blocks`: before the first turn, one turn more, at its end. For any element type.
-- Assumes nothing.
use Prim.Native.Nat.{ℕ, zero, suc, ◌+◌, ◌*◌, ◌≤◌, ◌<◌, min, max}
use native.Mathlib.Nat.{suc-mul, zero-mul, mul-one}
use native.Mathlib.Omega.{arith}
use mathlib.Core.Path.{◌≡◌, refl, sym, ap, ◌∙◌}
use mathlib.Core.Bool.{Bool, true, false, cond, ◌&&◌, and-false}
use mathlib.Core.List.{List, [], ◌∷◌, ◌++◌}
use lib.Dec.{leb, ltb}
use lib.ListN.{length, take, drop, set, length-drop, take-append-drop}
use lib.Seq.{take-add, take_all, length-take-le}
use borrow.Author.Tests.{lt-ltb, le-ltb, le-leb, ltb-true, ltb-false, leb-true}
use Rattle.codec.specs.Lists.{put, part}
use Rattle.codec.proofs.Lists.{put_length, part_length, put_one}
use Rattle.cells.specs.Cells.{joined}
use Rattle.cells.specs.Reading.{length_joined, block_end}
use Rattle.cells.specs.Inner.Blocks.{on, in_blocks, set_row}
use Rattle.cells.specs.Box.{within}
use Rattle.cells.proofs.Blocks.{joined_same, on_block_lem, on_within}

-- F keeps the length of a block
abbrev pub Keeps : {A : Type 0} → ℕ → (ℕ → List A → List A) → Type 0
Keeps {A} m F = (c : ℕ) (l : List A) → length l ≡ m → length (F c l) ≡ m

-- ---- tests
within_self : (a c : ℕ) → within a c c ≡ false
within_self a c = rw (le-ltb c c (omega arith)) (and-false (leb a c))

within_here : (a c : ℕ) → a ≤ c → within a (c + 1) c ≡ true
within_here a c h = rw (le-leb a c h, lt-ltb c (c + 1) (omega arith))

within_other : (a c b : ℕ) → (b ≡ c → ⊥) → within a (c + 1) b ≡ within a c b
within_other a c b h = ap (λ (t : Bool). leb a b && t) (go (ltb b c) refl)
  where
    go : (t : Bool) → ltb b c ≡ t → ltb b (c + 1) ≡ ltb b c
    go true e = let k : b < c = ltb-true b c e in rw e (lt-ltb b (c + 1) (omega arith))
    go false e = let k : c ≤ b = ltb-false b c e in rw e (le-ltb b (c + 1) (omega arith))

-- ---- blocks
module _ {A : Type 0} (n m a : ℕ) (F : ℕ → List A → List A) (keeps : Keeps m F) where
  block_length_lem : (e c : ℕ) (l : List A) → length l ≡ n * m → c < n → length (cond (within a e c) (F c (part l (c * m) m)) (part l (c * m) m)) ≡ m
  block_length_lem e c l h k = go (within a e c)
    where
      long : length (part l (c * m) m) ≡ m
      long = part_length l (c * m) m (omega (arith, h, block_end c n m k))

      go : (t : Bool) → length (cond t (F c (part l (c * m) m)) (part l (c * m) m)) ≡ m
      go true = keeps c _ long
      go false = long

  pub blocks_length : (e : ℕ) (l : List A) → length l ≡ n * m → length (in_blocks n m a e F l) ≡ n * m
  unfolding in_blocks
  blocks_length e l h = length_joined n m _ (λ c k. block_length_lem e c l h k)

  pub blocks_more : (c : ℕ) (l : List A) → length l ≡ n * m → a ≤ c → c < n → on (c * m) m (F c) (in_blocks n m a c F l) ≡ in_blocks n m a (c + 1) F l
  unfolding in_blocks
  blocks_more c l h p k =
      on_block_lem n c m _ _ (F c) k (λ b q. block_length_lem c b l h q)
      (rw (within_self a c) (keeps c _ (part_length l (c * m) m (omega (arith, h, block_end c n m k)))))
      (rw (within_here a c p, within_self a c))
      (λ b q o. rw (within_other a c b o))

-- ---- a list is its blocks
parts_joined : {A : Type 0} (n m : ℕ) (l : List A) → n * m ≤ length l → joined n (λ c. part l (c * m) m) ≡ take (n * m) l
unfolding joined part
parts_joined zero m l h = ap (λ (k : ℕ). take k l) (sym (zero-mul m))
parts_joined {A} (suc n) m l h =
    let k : n * m + m ≡ suc n * m = omega (arith, suc-mul n m) in
    ap (λ (t : List A). t ++ take m (drop (n * m) l)) (parts_joined n m l (omega arith)) ∙ sym (take-add (n * m) m l) ∙ ap (λ (i : ℕ). take i l) k

pub parts_whole : {A : Type 0} (n m : ℕ) (l : List A) → length l ≡ n * m → joined n (λ c. part l (c * m) m) ≡ l
parts_whole n m l h = parts_joined n m l (omega arith) ∙ take_all (n * m) l (omega arith)

within_none : (a c : ℕ) → within a a c ≡ false
within_none a c = go (leb a c) refl
  where
    go : (t : Bool) → leb a c ≡ t → (t && ltb c a) ≡ false
    go true e = let k : a ≤ c = leb-true a c e in le-ltb c a k
    go false e = refl

put_part : {A : Type 0} (s : List A) (at k : ℕ) → at + k ≤ length s → put s at (part s at k) ≡ s
unfolding put part
put_part {A} s at k h =
    ap (λ (i : ℕ). take at s ++ take k (drop at s) ++ drop (at + i) s) (length-take-le k (drop at s) (omega (arith, length-drop at s)))
    ∙ ap (λ (t : List A). t ++ drop (at + k) s) (sym (take-add at k s))
    ∙ take-append-drop (at + k) s

-- ---- the loop
module _ {A : Type 0} (at n m a : ℕ) (F : ℕ → List A → List A) (keeps : Keeps m F) (s : List A) (fits : at + n * m ≤ length s) where
  whole : length (part s at (n * m)) ≡ n * m
  whole = part_length s at (n * m) fits

  pub sweep_length : (c : ℕ) → length (on at (n * m) (in_blocks n m a c F) s) ≡ length s
  unfolding on
  sweep_length c = put_length s at _ (omega (arith, blocks_length n m a F keeps c (part s at (n * m)) whole))

  pub sweep_none : s ≡ on at (n * m) (in_blocks n m a a F) s
  unfolding on in_blocks
  sweep_none =
      sym (ap (put s at)
      (joined_same n _ (λ c. part (part s at (n * m)) (c * m) m) (λ c k. rw (within_none a c))
      ∙ parts_whole n m (part s at (n * m)) whole)
      ∙ put_part s at (n * m) fits)

  pub sweep_more : (c : ℕ) → a ≤ c → c < n → on (at + c * m) m (F c) (on at (n * m) (in_blocks n m a c F) s) ≡ on at (n * m) (in_blocks n m a (c + 1) F) s
  unfolding on
  sweep_more c p k =
      let l : List A = part s at (n * m) in
      let long = blocks_length n m a F keeps c l whole in
      let short = part_length (in_blocks n m a c F l) (c * m) m (omega (arith, long, block_end c n m k)) in
      on_within s at (in_blocks n m a c F l) (c * m) m (F c) (omega (arith, long)) (omega (arith, long, block_end c n m k)) (keeps c _ short)
      ∙ ap (put s at) (blocks_more n m a F keeps c l whole p k)

  pub sweep_end : (c e : ℕ) → ((b : ℕ) → b < n → within a c b ≡ within a e b) → on at (n * m) (in_blocks n m a c F) s ≡ on at (n * m) (in_blocks n m a e F) s
  unfolding on in_blocks
  sweep_end c e h = ap (put s at) (joined_same n _ _ (λ b k. rw (h b k)))

-- ---- where a loop ends
-- a loop from a, over the numbers below both e and n, ends where one from a up to e would, but for what no block is
pub cut_same : (a e n i : ℕ) → i ≡ max a (min e n) → (b : ℕ) → b < n → within a i b ≡ within a e b
cut_same a e n i q b h = from (leb a b) refl
  where
    below : (t : Bool) → ltb b e ≡ t → a ≤ b → ltb b i ≡ ltb b e
    below true p l = let k : b < e = ltb-true b e p in rw p (lt-ltb b i (omega arith))
    below false p l = let k : e ≤ b = ltb-false b e p in rw p (le-ltb b i (omega arith))

    from : (t : Bool) → leb a b ≡ t → (t && ltb b i) ≡ (t && ltb b e)
    from true p = below (ltb b e) refl (leb-true a b p)
    from false p = refl

-- ---- a row, cell by cell
set_on : {A : Type 0} (s : List A) (p : ℕ) (v : A) → p < length s → set s p v ≡ on p 1 (λ (_ : List A). v ∷ []) s
unfolding on
set_on s p v h = put_one s p v h

module _ {A : Type 0} (at n a : ℕ) (v : A) (s : List A) (fits : at + n ≤ length s) where
  one_wide : at + n * 1 ≤ length s
  one_wide = omega (arith, mul-one n)

  pub row_none : s ≡ on at n (set_row n a a v) s
  unfolding set_row
  row_none = sweep_none at n 1 a _ (λ c l e. refl) s one_wide ∙ ap (λ (k : ℕ). on at k (in_blocks n 1 a a (λ _ _. v ∷ [])) s) (mul-one n)

  pub row_more : (i : ℕ) → a ≤ i → i < n → set (on at n (set_row n a i v) s) (at + i) v ≡ on at n (set_row n a (i + 1) v) s
  unfolding set_row
  row_more i p k =
      let F : ℕ → List A → List A = λ _ _. v ∷ [] in
      let here : length (on at (n * 1) (in_blocks n 1 a i F) s) ≡ length s = sweep_length at n 1 a F (λ c l e. refl) s one_wide i in
      ap (λ (q : ℕ). set (on at q (in_blocks n 1 a i F) s) (at + i) v) (sym (mul-one n))
      ∙ set_on (on at (n * 1) (in_blocks n 1 a i F) s) (at + i) v (omega (arith, here))
      ∙ ap (λ (q : ℕ). on (at + q) 1 (λ (_ : List A). v ∷ []) (on at (n * 1) (in_blocks n 1 a i F) s)) (sym (mul-one i))
      ∙ sweep_more at n 1 a F (λ c l e. refl) s one_wide i p k
      ∙ ap (λ (q : ℕ). on at q (in_blocks n 1 a (i + 1) F) s) (mul-one n)

  pub row_end : (i e : ℕ) → ((b : ℕ) → b < n → within a i b ≡ within a e b) → on at n (set_row n a i v) s ≡ on at n (set_row n a e v) s
  unfolding set_row
  row_end i e h =
      let F : ℕ → List A → List A = λ _ _. v ∷ [] in
      ap (λ (k : ℕ). on at k (in_blocks n 1 a i F) s) (sym (mul-one n))
      ∙ sweep_end at n 1 a F (λ c l x. refl) s one_wide i e h
      ∙ ap (λ (k : ℕ). on at k (in_blocks n 1 a e F) s) (mul-one n)
