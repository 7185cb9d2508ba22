-- The auxiliary line: a span of its places as a loop writes it, and the whole line number by number against its definitions. Assumes nothing.
use mathlib.Core.Path.{◌≡◌, refl, sym, ap, ◌∙◌}
use mathlib.Core.Bool.{Bool, true, false, cond}
use mathlib.Core.List.{List, [], ◌∷◌, ◌++◌}
use Prim.Native.Nat.{ℕ, ◌+◌, ◌-◌, ◌*◌, ◌≤◌, ◌<◌}
use native.Mathlib.Nat.{zero-add}
use native.Mathlib.Omega.{arith}
use lib.Dec.{ltb, eqb}
use lib.ListN.{length, get_or, set, drop, length-set, length-drop, take-append-drop}
use lib.Seq.{get_or-set_same, get_or-set_other, take_all}
use lib.Ieee.{Float, nan}
use borrow.Author.Tests.{ltb-true, ltb-false, eqb-true, eqb-false}
use Rattle.codec.specs.Lists.{part}
use Rattle.root.specs.Rounded.{◌⊕◌}
use Rattle.root.specs.declared.Spacings.{Spacings}
use Rattle.cells.specs.Cells.{row}
use Rattle.cells.proofs.Blocks.{joined_same}
use Rattle.cells.proofs.Pointwise.{part_row}
use Rattle.tfsf.specs.Line.{ex_at, hy_at, line_factor, hy_inner, ex_inner, mur_end, mur_factor, hy_after, line_h, ex_moved, ex_after, line_e}
use Rattle.tfsf.specs.Inner.Spans.{Spanned, Sized}

-- the new hy by its place in the line, after all of ex
abbrev pub hy_span : (factor : Float) → (n : ℕ) → List Float → ℕ → Float
hy_span factor n s q = hy_inner factor n s (q - n)

-- ---- a list of two rows
pub rows_are : (n : ℕ) (f g : ℕ → Float) (l : List Float) → length l ≡ 2 * n → ((q : ℕ) → q < n → get_or l q nan ≡ f q) →
    ((q : ℕ) → q < n → get_or l (n + q) nan ≡ g q) → l ≡ row n f ++ row n g
unfolding part
rows_are n f g l h p q =
    let short : length (drop n l) ≤ n = omega (arith, length-drop n l) in
    sym (take-append-drop n l)
    ∙ ap (λ (x : List Float). x ++ drop n l)
    (part_row l 0 n nan (omega arith) ∙ joined_same n _ _ (λ i k. ap (λ (x : Float). x ∷ []) (ap (λ (m : ℕ). get_or l m nan) (zero-add i) ∙ p i k)))
    ∙ ap (λ (x : List Float). row n f ++ x)
    (sym (take_all n (drop n l) short) ∙ part_row l n n nan (omega arith) ∙ joined_same n _ _ (λ i k. ap (λ (x : Float). x ∷ []) (q i k)))

-- ---- the magnetic half
module _ (mu0 : Float) (s : Spacings) (n : ℕ) (l t : List Float) (z : Sized n l) (factor : Float) where
  pub h_line : factor ≡ line_factor mu0 s → Spanned (hy_span factor n l) n (n + (n - 1)) l t → t ≡ line_h mu0 s n l
  unfolding line_h hy_after
  h_line e p = rows_are n (ex_at l) (hy_after mu0 s n l) t (p.same ∙ z.long) (λ q k. p.below q k) (λ q k. go q (ltb (q + 1) n) refl k)
    where
      go : (q : ℕ) (b : Bool) → ltb (q + 1) n ≡ b → q < n → get_or t (n + q) nan ≡ cond b (hy_inner (line_factor mu0 s) n l q) (hy_at n l q)
      go q true x k =
          let y : q + 1 < n = ltb-true (q + 1) n x in
          let back : n + q - n ≡ q = omega arith in
          p.inside (n + q) (omega arith) (omega arith) ∙ ap (hy_inner factor n l) back ∙ ap (λ (x : Float). hy_inner x n l q) e
      go q false x k = let y : n ≤ q + 1 = ltb-false (q + 1) n x in p.above (n + q) (omega arith)

-- ---- the electric half: the inner places, the two ends, the sample
module _ (eps0 c0 : Float) (s : Spacings) (n : ℕ) (sample : Float) (l t : List Float) (z : Sized n l) (factor m v w : Float)
    (e : factor ≡ line_factor eps0 s) (f : m ≡ mur_factor c0 s) (p : Spanned (ex_inner factor n l) 1 (n - 1) l t)
    (low : v ≡ mur_end m (ex_at l 0) (ex_at l 1) (ex_at t 1)) (high : w ≡ mur_end m (ex_at l (n - 1)) (ex_at l (n - 2)) (ex_at (set t 0 v) (n - 2))) where
  ended : List Float
  ended = set (set t 0 v) (n - 1) w

  size : length t ≡ 2 * n
  size = p.same ∙ z.long

  other : (q : ℕ) → (q ≡ 0 → ⊥) → (q ≡ n - 1 → ⊥) → get_or ended q nan ≡ get_or t q nan
  unfolding ended
  other q x y = get_or-set_other (set t 0 v) (n - 1) q w nan y ∙ get_or-set_other t 0 q v nan x

  abbrev new : ℕ → Float
  new = ex_inner (line_factor eps0 s) n l

  inner : (q : ℕ) → 1 ≤ q → q < n - 1 → get_or t q nan ≡ new q
  inner q x y = p.inside q x y ∙ ap (λ (x : Float). ex_inner x n l q) e

  first : get_or ended 0 nan ≡ mur_end (mur_factor c0 s) (ex_at l 0) (ex_at l 1) (new 1)
  unfolding ended
  first =
      let big = z.low in
      get_or-set_other (set t 0 v) (n - 1) 0 w nan (λ i. absurd (omega arith))
      ∙ get_or-set_same t 0 v nan (omega (arith, size))
      ∙ low
      ∙ rw (f, inner 1 (omega arith) (omega arith)) refl

  last : get_or ended (n - 1) nan ≡ mur_end (mur_factor c0 s) (ex_at l (n - 1)) (ex_at l (n - 2)) (new (n - 2))
  unfolding ended
  last =
      let big = z.low in
      get_or-set_same (set t 0 v) (n - 1) w nan (omega (arith, size, length-set t 0 v))
      ∙ high
      ∙ rw (f, get_or-set_other t 0 (n - 2) v nan (λ i. absurd (omega arith)), inner (n - 2) (omega arith) (omega arith)) refl

  moved : (q : ℕ) → q < n → get_or ended q nan ≡ ex_moved eps0 c0 s n l q
  unfolding ex_moved
  moved q k = go (eqb q 0) refl (eqb q (n - 1)) refl
    where
      go : (x : Bool) → eqb q 0 ≡ x → (y : Bool) → eqb q (n - 1) ≡ y →
          get_or ended q nan ≡ cond x (mur_end (mur_factor c0 s) (ex_at l 0) (ex_at l 1) (new 1))
          (cond y (mur_end (mur_factor c0 s) (ex_at l (n - 1)) (ex_at l (n - 2)) (new (n - 2))) (new q))
      go true x y i = let at : q ≡ 0 = eqb-true q 0 x in rw at first
      go false x true i = let at : q ≡ n - 1 = eqb-true q (n - 1) i in rw at last
      go false x false i =
          let a = eqb-false q 0 x in
          let b = eqb-false q (n - 1) i in
          other q a b ∙ inner q (omega (arith, a)) (omega (arith, b))

  beyond : (q : ℕ) → q < n → get_or ended (n + q) nan ≡ hy_at n l q
  beyond q k = let big = z.low in other (n + q) (λ i. absurd (omega arith)) (λ i. absurd (omega arith)) ∙ p.above (n + q) (omega arith)

  pub e_line : set (set (set t 0 v) (n - 1) w) 6 (get_or (set (set t 0 v) (n - 1) w) 6 nan ⊕ sample) ≡ line_e eps0 c0 s n sample l
  unfolding line_e ex_after ended
  e_line =
      rows_are n (ex_after eps0 c0 s n sample l) (hy_at n l) (set ended 6 (get_or ended 6 nan ⊕ sample)) long (λ q k. go q k (eqb q 6) refl)
      (λ q k. let big = z.low in get_or-set_other ended 6 (n + q) _ nan (λ i. absurd (omega arith)) ∙ beyond q k)
    where
      kept : length ended ≡ 2 * n
      kept = length-set (set t 0 v) (n - 1) w ∙ length-set t 0 v ∙ size

      long : length (set ended 6 (get_or ended 6 nan ⊕ sample)) ≡ 2 * n
      long = length-set ended 6 _ ∙ kept

      go : (q : ℕ) → q < n → (x : Bool) → eqb q 6 ≡ x →
          get_or (set ended 6 (get_or ended 6 nan ⊕ sample)) q nan ≡ cond x (ex_moved eps0 c0 s n l q ⊕ sample) (ex_moved eps0 c0 s n l q)
      go q k true x =
          let at : q ≡ 6 = eqb-true q 6 x in
          let big = z.low in
          rw at (get_or-set_same ended 6 _ nan (omega (arith, kept)) ∙ ap (λ (y : Float). y ⊕ sample) (moved 6 (omega arith)))
      go q k false x = get_or-set_other ended 6 q _ nan (eqb-false q 6 x) ∙ moved q k
