-- The ids tested one after another, and the steps that the clock has left. Assumes nothing.
use Prim.Native.Nat.{ℕ, zero, suc, ◌+◌, ◌-◌, ◌≤◌, ◌<◌}
use native.Mathlib.Numerals.{add-one}
use native.Mathlib.Omega.{arith}
use mathlib.Core.Path.{◌≡◌, refl, sym, ap, ◌∙◌}
use mathlib.Core.Bool.{Bool, true, false, ◌&&◌}
use mathlib.Core.List.{List, [], ◌∷◌}
use lib.Dec.{ltb, leb}
use lib.ListN.{length, get_or, take}
use lib.Seq.{take_all}
use borrow.Author.Tests.{leb-true, leb-false, le-leb, lt-leb, ne_eqb}
use Rattle.codec.specs.Lists.{every}
use Rattle.due.specs.Due.{last_step, fresh_ids}

-- ---- a test of every element, one more each time
and_true : (a : Bool) → (a && true) ≡ a
and_true true = refl
and_true false = refl

and_assoc : (a b c : Bool) → (a && (b && c)) ≡ (a && b && c)
and_assoc true b c = refl
and_assoc false b c = refl

module _ (p : ℕ → Bool) where
  next : (l : List ℕ) (i : ℕ) → i < length l → every p (take (suc i) l) ≡ (every p (take i l) && p (get_or l i 0))
  unfolding every
  next [] i h = absurd (omega arith)
  next (x ∷ l) zero h = and_true (p x)
  next (x ∷ l) (suc i) h = ap (λ (b : Bool). p x && b) (next l i (omega arith)) ∙ and_assoc (p x) (every p (take i l)) (p (get_or l i 0))

  pub every_none : (l : List ℕ) → true ≡ every p (take 0 l)
  unfolding every
  every_none l = refl

  pub every_more : {b b' : Bool} {x : ℕ} (l : List ℕ) (i : ℕ) → i < length l → b ≡ every p (take i l) → x ≡ get_or l i 0 → b' ≡ (b && p x) → b' ≡ every p (take (i + 1) l)
  every_more {b} {b'} {x} l i h e ex eb =
      rw add-one (eb ∙ ap (λ (a : Bool). a && p x) e ∙ ap (λ (y : ℕ). every p (take i l) && p y) ex ∙ sym (next l i h))

  pub every_all : {b : Bool} (l : List ℕ) (i : ℕ) → length l ≤ i → b ≡ every p (take i l) → b ≡ every p l
  every_all l i h e = e ∙ ap (λ (q : List ℕ). every p q) (take_all i l h)

-- ---- the ids
pub off : {built : ℕ} (ids : List ℕ) → built ≡ 0 → true ≡ fresh_ids built ids
unfolding fresh_ids
off ids e = rw e

pub on : {built : ℕ} {b : Bool} (ids : List ℕ) → (built ≡ 0 → ⊥) → b ≡ every (λ id. ltb id built) ids → b ≡ fresh_ids built ids
unfolding fresh_ids
on {built} ids h e = rw (ne_eqb built 0 h) e

-- ---- the clock
pub left_is : (steps n m : ℕ) → steps ≤ last_step → m ≡ last_step - steps → leb n m ≡ leb (steps + n) last_step
left_is steps n m h e = go (leb n m) refl
  where
    go : (b : Bool) → leb n m ≡ b → leb n m ≡ leb (steps + n) last_step
    go true q = let low = leb-true n m q in q ∙ sym (le-leb (steps + n) last_step (omega arith))
    go false q = let high = leb-false n m q in q ∙ sym (lt-leb (steps + n) last_step (omega arith))
