-- A part of a list that is filled from its front, one store a turn; parts that follow each other. Assumes nothing.
use mathlib.Core.Path.{◌≡◌, refl, sym, ap, ◌∙◌, subst}
use mathlib.Core.Logic.{◌⊎◌, inl, inr, ⊎_elim}
use mathlib.Core.Bool.{Bool, true, false}
use mathlib.Core.List.{List}
use Prim.Native.Nat.{ℕ, ◌+◌, ◌≤◌, ◌<◌}
use native.Mathlib.Nat.{zero-add}
use native.Mathlib.Omega.{arith}
use borrow.Author.Count.{below_more}
use borrow.Author.Tests.{ltb-true, ltb-false}
use lib.Dec.{ltb}
use lib.ListN.{length, get_or, set, length-set}
use lib.Seq.{get_or-set_same, get_or-set_other}
use lib.Ieee.{Float, nan}
use Rattle.fdtd.specs.Inner.Span.{Span}

side_of : (b : Bool) (i y : ℕ) → ltb i y ≡ b → (i < y) ⊎ (y ≤ i)
side_of true i y e = inl (ltb-true i y e)
side_of false i y e = inr (ltb-false i y e)

pub lt_or_ge : (i y : ℕ) → (i < y) ⊎ (y ≤ i)
lt_or_ge i y = side_of (ltb i y) i y refl

module _ (f : ℕ → Float) (old : List Float) (lo a : ℕ) where
  pub span_start : Span f old lo a a old
  span_start = record { len = refl; under = λ q h. refl; at = λ i g h. absurd (omega arith); over = λ q h. refl }

  pub span_step : (new : List Float) (i : ℕ) (v : Float) → Span f old lo a i new → a ≤ i → lo + i < length old → v ≡ f i → Span f old lo a (i + 1) (set new (lo + i) v)
  span_step new i v s g h e =
      record {
        len = length-set new (lo + i) v ∙ s.len;
        under = λ q l. get_or-set_other new (lo + i) q v nan (omega arith) ∙ s.under q l;
        at = λ k m l.
            below_more (λ k. a ≤ k → get_or (set new (lo + i) v) (lo + k) nan ≡ f k) i
            (λ k l m. get_or-set_other new (lo + i) (lo + k) v nan (omega arith) ∙ s.at k m l)
            (λ m. get_or-set_same new (lo + i) v nan (omega (arith, s.len)) ∙ e) k l m;
        over = λ q l. get_or-set_other new (lo + i) q v nan (omega arith) ∙ s.over q (omega arith);
      }

  pub span_end : {new : List Float} {i z : ℕ} → Span f old lo a i new → i ≡ z → Span f old lo a z new
  span_end {new} s e = subst (λ (k : ℕ). Span f old lo a k new) e s

  pub span_as : {f' : ℕ → Float} {z : ℕ} {new : List Float} → Span f' old lo a z new → ((i : ℕ) → a ≤ i → i < z → f' i ≡ f i) → Span f old lo a z new
  span_as s p = record { len = s.len; under = s.under; at = λ i g h. s.at i g h ∙ p i g h; over = s.over }

  -- nothing is stored, and that is right
  pub span_kept : (z : ℕ) → ((i : ℕ) → i < z → get_or old (lo + i) nan ≡ f i) → Span f old lo a z old
  span_kept z p = record { len = refl; under = λ q h. refl; at = λ i g h. p i h; over = λ q h. refl }

  -- a part, and then the part after it
  pub span_join : {f' : ℕ → Float} {mid new : List Float} {y z : ℕ} → Span f old lo a y mid → Span f' mid lo y z new → a ≤ y → y ≤ z → ((i : ℕ) → y ≤ i → i < z → f' i ≡ f i) → Span f old lo a z new
  span_join {f'} {mid} {new} {y} {z} s t g h p =
      record {
        len = t.len ∙ s.len;
        under = λ q l. t.under q (omega arith) ∙ s.under q l;
        at = λ i m l. ⊎_elim (λ u. t.under (lo + i) (omega arith) ∙ s.at i m u) (λ u. t.at i u l ∙ p i u l) (lt_or_ge i y);
        over = λ q l. t.over q l ∙ s.over q (omega arith);
      }

  -- a part, and then the part before it
  pub span_before : {f' : ℕ → Float} {mid new : List Float} {y z : ℕ} → Span f old lo y z mid → Span f' mid lo a y new → a ≤ y → y ≤ z → ((i : ℕ) → a ≤ i → i < y → f' i ≡ f i) → Span f old lo a z new
  span_before {f'} {mid} {new} {y} {z} s t g h p =
      record {
        len = t.len ∙ s.len;
        under = λ q l. t.under q l ∙ s.under q (omega arith);
        at = λ i m l. ⊎_elim (λ u. t.at i m u ∙ p i m u) (λ u. t.over (lo + i) (omega arith) ∙ s.at i u l) (lt_or_ge i y);
        over = λ q l. t.over q (omega arith) ∙ s.over q l;
      }

  -- what follows the part is right as it was
  pub span_more : {new : List Float} {y z : ℕ} → Span f old lo a y new → a ≤ y → y ≤ z → ((i : ℕ) → y ≤ i → i < z → get_or old (lo + i) nan ≡ f i) → Span f old lo a z new
  span_more {new} {y} {z} s g h p =
      record {
        len = s.len;
        under = s.under;
        at = λ i m l. ⊎_elim (λ u. s.at i m u) (λ u. s.over (lo + i) (omega arith) ∙ p i u l) (lt_or_ge i y);
        over = λ q l. s.over q (omega arith);
      }

-- a part of a list from its beginning on
module _ (f : ℕ → Float) (old : List Float) (a : ℕ) where
  pub first_step : (new : List Float) (i : ℕ) (v : Float) → Span f old 0 a i new → a ≤ i → i < length old → v ≡ f i → Span f old 0 a (i + 1) (set new i v)
  first_step new i v s g h e = subst (λ (x : ℕ). Span f old 0 a (i + 1) (set new x v)) (zero-add i) (span_step f old 0 a new i v s g (omega arith) e)

  pub first_at : {new : List Float} {i z : ℕ} → Span f old 0 a z new → a ≤ i → i < z → get_or new i nan ≡ f i
  first_at {new} {i} s g h = ap (λ (x : ℕ). get_or new x nan) (sym (zero-add i)) ∙ s.at i g h
