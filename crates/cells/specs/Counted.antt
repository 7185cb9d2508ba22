-- A box has as many cells of a grid as the product of its ranges, cut to the grid. Proved here, so that nothing of it has to be believed.
use Rattle.std.specs.Prelude.{ℕ, zero, suc, ◌+◌, ◌-◌, ◌*◌, ◌≤◌, ◌<◌, min, ◌≡◌, refl, Bool, true, false, cond, ◌&&◌, List, [], ◌∷◌, ◌++◌, leb, ltb}
use Rattle.std.proofs.Common.{zero-mul, add-mul, mul-zero, mul-one, one-mul, arith, sym, ◌∙◌, ltb-true, ltb-false, leb-true, leb-false}
use Rattle.cells.specs.Cells.{joined, row, cellwise}
use Rattle.cells.specs.Box.{within, in_box, trues, box_cells}
use Rattle.cells.specs.declared.IndexBox.{IndexBox}

-- the numbers from a up to e that are below n
abbrev pub cut : (a e n : ℕ) → ℕ
cut a e n = min e n - a

trues_append : (p q : List Bool) → trues (p ++ q) ≡ trues p + trues q
unfolding trues
trues_append [] q = omega arith
trues_append (t ∷ p) q = rw (trues_append p q) (omega arith)

-- ---- one number more
cut_more : (a e n : ℕ) → cut a e (suc n) ≡ cut a e n + cond (within a e n) 1 0
cut_more a e n = go (leb a n) (ltb n e) refl refl
  where
    go : (s t : Bool) → leb a n ≡ s → ltb n e ≡ t → cut a e (suc n) ≡ cut a e n + cond (s && t) 1 0
    go true true p q = let l : a ≤ n = leb-true a n p in let h : n < e = ltb-true n e q in omega arith
    go true false p q = let h : e ≤ n = ltb-false n e q in omega arith
    go false true p q = let l : n < a = leb-false a n p in omega arith
    go false false p q = let l : n < a = leb-false a n p in omega arith

-- n lists, of which those in the range have m and the others none
joined_trues : (n m a e : ℕ) (g : ℕ → List Bool) → ((c : ℕ) → trues (g c) ≡ cond (within a e c) m 0) → trues (joined n g) ≡ cut a e n * m
unfolding joined trues
joined_trues zero m a e g h = let z : cut a e 0 ≡ 0 = omega arith in rw z (sym (zero-mul m))
joined_trues (suc n) m a e g h =
    trues_append (joined n g) (g n) ∙ rw (joined_trues n m a e g h, h n, cut_more a e n) (sym (part_of (cut a e n) m (within a e n)))
  where
    part_of : (k m : ℕ) (t : Bool) → (k + cond t 1 0) * m ≡ k * m + cond t m 0
    part_of k m true = add-mul k 1 m ∙ rw (one-mul m) refl
    part_of k m false = add-mul k 0 m ∙ rw (zero-mul m) refl

pub box_cells_lem : (nx ny nz : ℕ) (b : IndexBox) → box_cells nx ny nz b ≡ cut b.k0 b.k1 nz * (cut b.j0 b.j1 ny * cut b.i0 b.i1 nx)
unfolding box_cells cellwise in_box trues
box_cells_lem nx ny nz b = joined_trues nz _ b.k0 b.k1 _ plane
  where
    x : ℕ
    x = cut b.i0 b.i1 nx

    y : ℕ
    y = cut b.j0 b.j1 ny

    here : (t s : Bool) → ◌≡◌ {A = ℕ} (cond (t && s) 1 0 + 0) (cond s (cond t 1 0) 0)
    here true true = refl
    here true false = refl
    here false true = refl
    here false false = refl

    across : (t s : Bool) (n : ℕ) → n * cond (t && s) 1 0 ≡ cond s (n * cond t 1 0) 0
    across true true n = refl
    across true false n = mul-zero n
    across false true n = refl
    across false false n = mul-zero n

    all : (t : Bool) → y * (x * cond t 1 0) ≡ cond t (y * x) 0
    all true = rw (mul-one x) refl
    all false = rw (mul-zero x) (mul-zero y)

    line : (k j : ℕ) → trues (row nx (λ i. in_box b i j k)) ≡ cond (within b.j0 b.j1 j) (x * cond (within b.k0 b.k1 k) 1 0) 0
    line k j =
        joined_trues nx _ b.i0 b.i1 _ (λ i. here (within b.k0 b.k1 k && within b.j0 b.j1 j) (within b.i0 b.i1 i))
        ∙ across (within b.k0 b.k1 k) (within b.j0 b.j1 j) x

    plane : (k : ℕ) → trues (joined ny (λ j. row nx (λ i. in_box b i j k))) ≡ cond (within b.k0 b.k1 k) (y * x) 0
    plane k = joined_trues ny _ b.j0 b.j1 _ (line k) ∙ all (within b.k0 b.k1 k)
