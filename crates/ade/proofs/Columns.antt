-- A store by blocks of n numbers, one for each cell: one cell's numbers moved on, and changes of cells from a up to z, one after another and side by side. Assumes nothing.
use Prim.Native.Nat.{ℕ, ◌+◌, ◌*◌, ◌≤◌, ◌<◌}
use native.Mathlib.Numerals.{add-one}
use native.Mathlib.Omega.{arith}
use mathlib.Core.Path.{◌≡◌, refl, ap, ◌∙◌}
use mathlib.Core.Bool.{Bool, true, false, cond}
use mathlib.Core.List.{List}
use lib.Dec.{ltb, eqb}
use lib.ListN.{length, get_or, set, length-set}
use lib.Seq.{get_or-set_same, get_or-set_other}
use lib.Ieee.{Float, nan}
use borrow.Author.Tests.{ltb-true, ltb-false, eqb-true, eqb-false}
use Rattle.root.specs.Rounded.{◌⊕◌, ◌⊖◌}
use Rattle.dispersion.specs.declared.AdeCoeffs.{AdeCoeffs}
use Rattle.cells.specs.Reading.{block_end}
use Rattle.grid.specs.Stores.{number_at}
use Rattle.ade.specs.Polarization.{polarized}
use Rattle.ade.specs.declared.Stepped.{Stepped}
use Rattle.ade.specs.Inner.Runs.{coeff_at, store_moved, moved, tripled, through, Changed, field_at, by_span, by_three, by_run}

-- two places of two blocks, or two of one, are two places
same_block : (n x i a m : ℕ) → a < n → m < n → x * n + a ≡ i * n + m → x ≡ i
same_block n x i a m h k e = go (ltb x i) refl (ltb i x) refl
  where
    go : (b : Bool) → ltb x i ≡ b → (c : Bool) → ltb i x ≡ c → x ≡ i
    go true p c q = let z : ⊥ = omega (arith, block_end x i n (ltb-true x i p)) in absurd z
    go false p true q = let z : ⊥ = omega (arith, block_end i x n (ltb-true i x q)) in absurd z
    go false p false q = omega (arith, ltb-false x i p, ltb-false i x q)

same_place : (n x i a m : ℕ) → a < n → m < n → x * n + a ≡ i * n + m → a ≡ m
same_place n x i a m h k e = let f : x * n ≡ i * n = ap (λ (b : ℕ). b * n) (same_block n x i a m h k e) in omega arith

module _ (n : ℕ) (s : List Float) (i m : ℕ) (v : Float) (k : m < n) where
  pub set_column : (x : ℕ) → i * n + m < length s → number_at (set s (i * n + m) v) n x m ≡ cond (eqb x i) v (number_at s n x m)
  set_column x h = go (eqb x i) refl
    where
      go : (b : Bool) → eqb x i ≡ b → number_at (set s (i * n + m) v) n x m ≡ cond b v (number_at s n x m)
      go true e =
          ap (λ (y : ℕ). number_at (set s (i * n + m) v) n y m) (eqb-true x i e) ∙ get_or-set_same s (i * n + m) v nan h
      go false e = get_or-set_other s (i * n + m) (x * n + m) v nan (λ p. eqb-false x i e (same_block n x i m m k k p))

  pub set_elsewhere : (x a : ℕ) → a < n → (a ≡ m → ⊥) → number_at (set s (i * n + m) v) n x a ≡ number_at s n x a
  set_elsewhere x a h o = get_or-set_other s (i * n + m) (x * n + a) v nan (λ p. o (same_place n x i a m h k p))

module _ (n : ℕ) (k : AdeCoeffs) (e : Float) (i j d m : ℕ) (s : List Float) (l : m < n) where
  turned_column : (x : ℕ) → i * n + m < length s → j * n + m < length s → d * n + m < length s →
      number_at (store_moved k e (i * n + m) (j * n + m) (d * n + m) s) n x m ≡ moved k e i j d (λ y. number_at s n y m) x
  unfolding store_moved moved
  turned_column x a b c =
      let p : Float = number_at s n i m in
      let q : Float = polarized k p (number_at s n j m) e in
      let s1 : List Float = set s (i * n + m) q in
      let s2 : List Float = set s1 (j * n + m) p in
      let l1 : length s1 ≡ length s = length-set s (i * n + m) q in
      let l2 : length s2 ≡ length s1 = length-set s1 (j * n + m) p in
      let v : Float = number_at s n d m ⊕ (q ⊖ p) in
      set_column n s2 d m v l x (omega arith)
      ∙ ap (cond (eqb x d) v) (set_column n s1 j m p l x (omega arith) ∙ ap (cond (eqb x j) p) (set_column n s i m q l x a))

  turned_elsewhere : (x a : ℕ) → a < n → (a ≡ m → ⊥) → number_at (store_moved k e (i * n + m) (j * n + m) (d * n + m) s) n x a ≡ number_at s n x a
  unfolding store_moved
  turned_elsewhere x a h o =
      let p : Float = number_at s n i m in
      let q : Float = polarized k p (number_at s n j m) e in
      let s1 : List Float = set s (i * n + m) q in
      let s2 : List Float = set s1 (j * n + m) p in
      set_elsewhere n s2 d m (number_at s n d m ⊕ (q ⊖ p)) l x a h o
      ∙ set_elsewhere n s1 j m p l x a h o
      ∙ set_elsewhere n s i m q l x a h o

  turned_length : length (store_moved k e (i * n + m) (j * n + m) (d * n + m) s) ≡ length s
  unfolding store_moved
  turned_length = simp length-set

-- four of the cell's numbers tell what becomes of one
pub moved_same : (k : AdeCoeffs) (e : Float) (i j d x : ℕ) (g h : ℕ → Float) → g i ≡ h i → g j ≡ h j → g d ≡ h d → g x ≡ h x → moved k e i j d g x ≡ moved k e i j d h x
unfolding moved
moved_same k e i j d x g h p q r s = cc

-- ---- cells from a up to z
-- F heeds only the numbers, not how they are given
abbrev pub Heeds : (ℕ → (ℕ → Float) → ℕ → Float) → Type 0
Heeds F = (m : ℕ) (g h : ℕ → Float) → ((y : ℕ) → g y ≡ h y) → (x : ℕ) → F m g x ≡ F m h x

-- one change after another
pub changed_then : (n a z : ℕ) (F H : ℕ → (ℕ → Float) → ℕ → Float) (old mid new : List Float) → Heeds H → Changed n a z F old mid → Changed n a z H mid new →
    Changed n a z (λ m g. H m (F m g)) old new
changed_then n a z F H old mid new heeds p q = record {
  same = q.same ∙ p.same;
  done = λ x m h k l. q.done x m h k l ∙ heeds m _ _ (λ y. p.done y m h k l) x;
  below = λ x m h l. q.below x m h l ∙ p.below x m h l;
  above = λ x m h l. q.above x m h l ∙ p.above x m h l;
}

-- the same change by another name
pub changed_as : (n a z : ℕ) (F H : ℕ → (ℕ → Float) → ℕ → Float) (old new : List Float) →
    ((m : ℕ) (g : ℕ → Float) (x : ℕ) → a ≤ m → m < z → F m g x ≡ H m g x) → Changed n a z F old new → Changed n a z H old new
changed_as n a z F H old new e p = record {
  same = p.same;
  done = λ x m h k l. p.done x m h k l ∙ e m _ x h k;
  below = p.below;
  above = p.above;
}

-- ---- what moves a cell's numbers heeds only them
pub span_heeds : (k : AdeCoeffs) (electric : List Float) (n c i j d : ℕ) → Heeds (by_span k electric n c i j d)
span_heeds k electric n c i j d m g h e x = moved_same k _ i j d x g h (e i) (e j) (e d) (e x)

moved_heeds : (k : AdeCoeffs) (e : Float) (i j d : ℕ) (g h : ℕ → Float) → ((y : ℕ) → g y ≡ h y) → (x : ℕ) → moved k e i j d g x ≡ moved k e i j d h x
moved_heeds k e i j d g h f x = moved_same k e i j d x g h (f i) (f j) (f d) (f x)

tripled_heeds : (k : AdeCoeffs) (e : ℕ → Float) (i j d : ℕ) (g h : ℕ → Float) → ((y : ℕ) → g y ≡ h y) → (x : ℕ) → tripled k e i j d g x ≡ tripled k e i j d h x
tripled_heeds k e i j d g h f x =
    moved_heeds k (e 2) (i + 2) (j + 2) (d + 2) _ _ (moved_heeds k (e 1) (i + 1) (j + 1) (d + 1) _ _ (moved_heeds k (e 0) i j d g h f)) x

-- the three components of a slot
pub three_done : (k : AdeCoeffs) (electric : List Float) (n i j d a z : ℕ) (old one two new : List Float) → Changed n a z (by_span k electric n 0 i j d) old one →
    Changed n a z (by_span k electric n 1 (i + 1) (j + 1) (d + 1)) one two → Changed n a z (by_span k electric n 2 (i + 2) (j + 2) (d + 2)) two new →
    Changed n a z (by_three k electric n i j d) old new
three_done k electric n i j d a z old one two new p q r =
    changed_then n a z _ _ old two new (span_heeds k electric n 2 (i + 2) (j + 2) (d + 2))
    (changed_then n a z _ _ old one two (span_heeds k electric n 1 (i + 1) (j + 1) (d + 1)) p q) r

-- one slot more
pub run_none : (k : Stepped) (electric : List Float) (n slots a z : ℕ) (s : List Float) → Changed n a z (by_run k electric n slots 0) s s
unfolding through
run_none k electric n slots a z s = record {
  same = refl;
  done = λ x m h k l. refl;
  below = λ x m h l. refl;
  above = λ x m h l. refl;
}

pub run_more : (k : Stepped) (electric : List Float) (n slots s a z : ℕ) (old now new : List Float) → Changed n a z (by_run k electric n slots s) old now →
    Changed n a z (by_three (coeff_at k s) electric n (3 * s) (3 * slots + 3 * s) (6 * slots)) now new → Changed n a z (by_run k electric n slots (s + 1)) old new
unfolding through
run_more k electric n slots s a z old now new p q =
    changed_as n a z _ _ old new (λ m g x h l. rw (add-one s) refl)
    (changed_then n a z (by_run k electric n slots s) (by_three (coeff_at k s) electric n (3 * s) (3 * slots + 3 * s) (6 * slots)) old now new
    (λ m g h f x. tripled_heeds (coeff_at k s) (field_at electric n m) (3 * s) (3 * slots + 3 * s) (6 * slots) g h f x) p q)

-- one run more
-- ---- one cell more
pub span_more : (k : AdeCoeffs) (electric : List Float) (n c i j d a m : ℕ) (old now new : List Float) → Changed n a m (by_span k electric n c i j d) old now →
    a ≤ m → m < n → i * n + n ≤ length old → j * n + n ≤ length old → d * n + n ≤ length old →
    new ≡ store_moved k (get_or electric (c * n + m) nan) (i * n + m) (j * n + m) (d * n + m) now → Changed n a (m + 1) (by_span k electric n c i j d) old new
span_more k electric n c i j d a m old now new p le l b1 b2 b3 e = record {
  same = ap length e ∙ turned_length n k v i j d m now l ∙ p.same;
  done = λ x y h w u. at x y h w u (eqb y m) refl;
  below = λ x y h u. other x y u (λ q. let z : ⊥ = omega arith in z) ∙ p.below x y h u;
  above = λ x y h u. other x y u (λ q. let z : ⊥ = omega arith in z) ∙ p.above x y (omega arith) u;
}
  where
    v : Float
    v = number_at electric n c m

    other : (x y : ℕ) → y < n → (y ≡ m → ⊥) → number_at new n x y ≡ number_at now n x y
    other x y u o = ap (λ (s : List Float). number_at s n x y) e ∙ turned_elsewhere n k v i j d m now l x y u o

    at : (x y : ℕ) → a ≤ y → y < m + 1 → y < n → (t : Bool) → eqb y m ≡ t → number_at new n x y ≡ moved k (number_at electric n c y) i j d (λ u. number_at old n u y) x
    at x y h w u true q =
        rw (eqb-true y m q)
        (ap (λ (s : List Float). number_at s n x m) e
        ∙ turned_column n k v i j d m now l x (omega (arith, p.same)) (omega (arith, p.same)) (omega (arith, p.same))
        ∙ moved_same k v i j d x _ _ (p.above i m (omega arith) l) (p.above j m (omega arith) l) (p.above d m (omega arith) l) (p.above x m (omega arith) l))
    at x y h w u false q = other x y u (eqb-false y m q) ∙ p.done x y h (omega (arith, eqb-false y m q)) u
