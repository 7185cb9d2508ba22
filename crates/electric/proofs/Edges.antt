-- A row whose first cells and whose last lie on walls. Assumes nothing.
use mathlib.Core.Path.{◌≡◌, sym, ◌∙◌, ap, subst}
use mathlib.Core.Bool.{Bool, true, false, cond}
use mathlib.Core.List.{List}
use Prim.Native.Nat.{ℕ, ◌+◌, ◌-◌, ◌≤◌}
use native.Mathlib.Omega.{arith}
use lib.ListN.{length, get_or, replicate, length-replicate, get_or-replicate}
use lib.Ieee.{Float, nan}
use Rattle.root.specs.Rounded.{◌⊕◌, ◌⊖◌, ◌⊗◌, ◌⊘◌, zero_f}
use Rattle.codec.specs.Lists.{put}
use Rattle.codec.proofs.Lists.{put_length, put_before, put_inside, put_after}
use Rattle.fdtd.specs.Yee.{updated_e}
use Rattle.fdtd.specs.Inner.Span.{Span}
use Rattle.fdtd.proofs.Spans.{span_as, span_join}
use Rattle.electric.specs.declared.row.Change.{Change}
use Rattle.electric.specs.declared.row.Factors.{Factors}
use Rattle.cells.specs.Box.{within}
use Rattle.electric.specs.Inner.Row.{dp_of, number_of}
use Rattle.electric.proofs.Slopes.{within_in, within_low, within_high}

module _ (l : List Float) (lo a m : ℕ) (v : Float) (room : lo + a + m ≤ length l) where
  filled : Span (λ i. v) l lo a (a + m) (put l (lo + a) (replicate m v))
  filled =
      let vs : List Float = replicate m v in
      let n : length vs ≡ m = length-replicate m v in
      record {
        len = put_length l (lo + a) vs (omega (arith, n));
        under = λ q h. put_before l (lo + a) vs q nan (omega arith) h;
        at = λ i g h.
            let p : lo + i ≡ lo + a + (i - a) = omega arith in
            ap (λ (x : ℕ). get_or (put l (lo + a) vs) x nan) p ∙ put_inside l (lo + a) vs (i - a) nan (omega arith) (omega (arith, n))
            ∙ get_or-replicate m (i - a) v nan (omega arith);
        over = λ q h. put_after l (lo + a) vs q nan (omega arith) (omega (arith, n));
      }

pub fill_span : (l : List Float) (lo a m : ℕ) (v : Float) {at z : ℕ} {l' : List Float} → l' ≡ put l at (replicate m v) → at ≡ lo + a → a + m ≡ z → lo + z ≤ length l
    → Span (λ i. v) l lo a z l'
fill_span l lo a m v {at} {z} {l'} e p q room =
    subst (λ (x : ℕ). Span (λ i. v) l lo a x l') q
    (subst (λ (x : List Float). Span (λ i. v) l lo a (a + m) x) (sym (e ∙ ap (λ (x : ℕ). put l x (replicate m v)) p)) (filled l lo a m v (omega arith)))

-- from the first cell on
pub fill_front : (l : List Float) (lo m : ℕ) (v : Float) {l' : List Float} → lo + m ≤ length l → l' ≡ put l lo (replicate m v) → Span (λ i. v) l lo 0 m l'
fill_front l lo m v h e = fill_span l lo 0 m v e (omega arith) (omega arith) h

-- over variables
pub pick_go : (go : Bool) (x y : Float) → go ≡ true → x ≡ cond go x y
pick_go go x y e = rw e

pub pick_stop : (go : Bool) (x y : Float) → go ≡ false → y ≡ cond go x y
pick_stop go x y e = rw e

-- a cell's new number by the two ways in which dp is taken
module _ (w : Change) (f : Factors) (curl poles e : List Float) (q i : ℕ) where
  pub by_poles : w.on ≡ true
      → (get_or f.ca i nan ⊗ get_or e (q + i) nan ⊕ get_or curl i nan ⊖ get_or poles (w.at + i) nan ⊘ w.dt) ⊘ get_or f.cb i nan
      ≡ number_of true w f curl poles e q i
  unfolding number_of updated_e dp_of
  by_poles p =
      ap (λ (x : Float). (get_or f.ca i nan ⊗ get_or e (q + i) nan ⊕ get_or curl i nan ⊖ x ⊘ w.dt) ⊘ get_or f.cb i nan)
      (pick_go w.on (get_or poles (w.at + i) nan) zero_f p)

  pub by_none : w.on ≡ false
      → (get_or f.ca i nan ⊗ get_or e (q + i) nan ⊕ get_or curl i nan ⊖ zero_f ⊘ w.dt) ⊘ get_or f.cb i nan ≡ number_of true w f curl poles e q i
  unfolding number_of updated_e dp_of
  by_none p =
      ap (λ (x : Float). (get_or f.ca i nan ⊗ get_or e (q + i) nan ⊕ get_or curl i nan ⊖ x ⊘ w.dt) ⊘ get_or f.cb i nan)
      (pick_stop w.on (get_or poles (w.at + i) nan) zero_f p)

  stop : (go : Bool) → go ≡ false → zero_f ≡ number_of go w f curl poles e q i
  unfolding number_of updated_e
  stop go p = rw p

  go_on : (go : Bool) (e1 : List Float) → go ≡ true → get_or e1 (q + i) nan ≡ get_or e (q + i) nan → number_of true w f curl poles e1 q i ≡ number_of go w f curl poles e q i
  unfolding number_of
  go_on go e1 p r = rw (p, r)

-- the walls' cells and those between
pub edged : (w : Change) (f : Factors) (curl poles e e1 e2 e3 : List Float) (q n a z : ℕ) → a ≤ z → z ≤ n → Span (λ i. zero_f) e q 0 a e1
    → Span (λ i. number_of true w f curl poles e1 q i) e1 q a z e2 → Span (λ i. zero_f) e2 q z n e3
    → Span (λ i. number_of (within a z i) w f curl poles e q i) e q 0 n e3
edged w f curl poles e e1 e2 e3 q n a z k m one two three =
    span_join _ _ _ _
    (span_join _ _ _ _ (span_as _ _ _ _ one (λ i g h. stop w f curl poles e q i (within a z i) (within_low a z i h))) two (omega arith) k
    (λ i g h. go_on w f curl poles e q i (within a z i) e1 (within_in a z i g h) (one.over (q + i) (omega arith))))
    three (omega arith) m (λ i g h. stop w f curl poles e q i (within a z i) (within_high a z i (omega arith) g))
