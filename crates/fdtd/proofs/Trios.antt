-- Derivatives of both sides, and their difference, cell by cell. Assumes nothing.
use Rattle.std.proofs.Common.{◌≡◌, ℕ, ◌+◌, ◌-◌, ◌≤◌, ◌<◌, length, get_or, set, refl, ap, ◌∙◌, subst, arith}
use native.Mathlib.Nat.{le_refl}
use lib.Ieee.{Float, nan}
use Rattle.root.specs.Rounded.{◌⊖◌}
use Rattle.fdtd.specs.declared.rows.Scratch.{Scratch}
use Rattle.fdtd.specs.Yee.{slope}
use Rattle.fdtd.specs.Inner.Span.{Trio}
use Rattle.fdtd.proofs.Spans.{span_start, span_as, span_join, span_before, first_step}
use mathlib.Core.List.{List}

pub put_law : (old : Scratch) (i : ℕ) (x y z : Float) → i < length old.first → i < length old.second → i < length old.curl → z ≡ x ⊖ y
    → Trio (λ k. x) (λ k. y) old i (i + 1) (record { first = set old.first i x; second = set old.second i y; curl = set old.curl i z })
put_law old i x y z p q r e = record {
  one = first_step (λ k. x) old.first i old.first i x (span_start _ _ _ _) (le_refl i) p refl;
  two = first_step (λ k. y) old.second i old.second i y (span_start _ _ _ _) (le_refl i) q refl;
  three = first_step (λ k. x ⊖ y) old.curl i old.curl i z (span_start _ _ _ _) (le_refl i) r e;
}

module _ (f g : ℕ → Float) (old : Scratch) (a : ℕ) where
  -- the cells from y up to z after those before them
  pub trio_join : {f' g' : ℕ → Float} {mid new : Scratch} {y z : ℕ} → Trio f g old a y mid → Trio f' g' mid y z new → a ≤ y → y ≤ z
      → ((i : ℕ) → y ≤ i → i < z → f' i ≡ f i) → ((i : ℕ) → y ≤ i → i < z → g' i ≡ g i) → Trio f g old a z new
  trio_join s t h l p q = record {
    one = span_join _ _ _ _ s.one t.one h l p;
    two = span_join _ _ _ _ s.two t.two h l q;
    three = span_join _ _ _ _ s.three t.three h l (λ i u v. rw (p i u v, q i u v));
  }

  pub trio_step : {new next : Scratch} {i : ℕ} {x y : Float} → Trio f g old a i new → Trio (λ k. x) (λ k. y) new i (i + 1) next → a ≤ i → x ≡ f i → y ≡ g i → Trio f g old a (i + 1) next
  trio_step {new} {next} {i} w p h ex ey =
      trio_join w p h (omega arith) (λ k u v. let e : i ≡ k = omega arith in ex ∙ ap f e) (λ k u v. let e : i ≡ k = omega arith in ey ∙ ap g e)

  -- a cell before those from the next one on
  pub trio_front : {new next : Scratch} {z : ℕ} {x y : Float} → Trio f g old (a + 1) z new → Trio (λ k. x) (λ k. y) new a (a + 1) next → a + 1 ≤ z → x ≡ f a → y ≡ g a → Trio f g old a z next
  trio_front w p h ex ey =
      record {
        one = span_before _ _ _ _ w.one p.one (omega arith) h (λ k u v. let e : a ≡ k = omega arith in ex ∙ ap f e);
        two = span_before _ _ _ _ w.two p.two (omega arith) h (λ k u v. let e : a ≡ k = omega arith in ey ∙ ap g e);
        three = span_before _ _ _ _ w.three p.three (omega arith) h (λ k u v. let e : a ≡ k = omega arith in rw (ex, ey, e));
      }

  pub trio_end : {new : Scratch} {i n : ℕ} → Trio f g old a i new → i ≡ n → Trio f g old a n new
  trio_end {new} w e = subst (λ (k : ℕ). Trio f g old a k new) e w

  pub trio_as : {f' g' : ℕ → Float} {new : Scratch} {z : ℕ} → Trio f' g' old a z new → ((i : ℕ) → a ≤ i → i < z → f' i ≡ f i) → ((i : ℕ) → a ≤ i → i < z → g' i ≡ g i) → Trio f g old a z new
  trio_as w ef eg = record {
    one = span_as _ _ _ _ w.one ef;
    two = span_as _ _ _ _ w.two eg;
    three = span_as _ _ _ _ w.three (λ i h l. rw (ef i h l, eg i h l));
  }

-- the derivative of the cell that is the i-th from a on
pub slope_from : (d : Float) (e : List Float) (lo hi a i : ℕ) → slope d (get_or e (lo + i) nan) (get_or e (hi + i) nan) ≡ slope d (get_or e (lo + (a + i - a)) nan) (get_or e (hi + (a + i - a)) nan)
slope_from d e lo hi a i = let same : a + i - a ≡ i = omega arith in rw same
