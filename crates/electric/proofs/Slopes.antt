-- The derivatives that the passes take are the row's: at the first cell, at the others, and across; which cells lie on walls. Assumes nothing.
use mathlib.Core.Path.{◌≡◌, refl, sym, ◌∙◌, ap, subst}
use mathlib.Core.Logic.{⊎_elim}
use mathlib.Core.Bool.{Bool, true, false, not, cond, ◌&&◌, ◌||◌}
use mathlib.Core.List.{List}
use Prim.Native.Nat.{ℕ, ◌+◌, ◌-◌, ◌≤◌, ◌<◌}
use native.Mathlib.Nat.{add_assoc, eq-or-lt_of_le}
use native.Mathlib.Omega.{arith}
use borrow.Author.Tests.{lt-ltb, le-ltb, ltb-true, le-leb, lt-leb, leb-true, eqb-true, eqb-false, ne_eqb}
use lib.Dec.{leb, ltb, eqb}
use lib.ListN.{get_or}
use lib.Ieee.{Float, nan}
use Rattle.fdtd.specs.declared.Axis.{Axis}
use Rattle.fdtd.specs.declared.rows.Differences.{Differences}
use Rattle.fdtd.specs.declared.rows.Scratch.{Scratch}
use Rattle.fdtd.specs.declared.rows.Side.{Side}
use Rattle.fdtd.specs.declared.turns.Run.{Run}
use Rattle.fdtd.specs.Axes.{previous_of}
use Rattle.fdtd.specs.Yee.{slope, derivative}
use Rattle.fdtd.specs.Inner.Span.{Trio}
use Rattle.fdtd.specs.Inner.Turns.{side_across, side_along}
use Rattle.cells.specs.Box.{within}
use Rattle.electric.specs.Inner.Row.{behind_of, before_at, slope_of}

before_inner : (b : Bool) (own other i n : ℕ) → 1 ≤ i → cond b own (other + 1) + (i - 1) ≡ cond b (own + previous_of i n) (other + i)
before_inner true own other i n h = rw (ne_eqb i 0 (λ e. omega arith))
before_inner false own other i n h = omega arith

before_first : (b : Bool) (own other n : ℕ) → cond b (own + (n - 1)) (other + 0) ≡ cond b (own + previous_of 0 n) (other + 0)
before_first true own other n = omega arith
before_first false own other n = omega arith

module _ (s : Side) (h : List Float) (n : ℕ) where
  pub slope_inner : (i : ℕ) {t : Differences} → t ≡ behind_of s → 1 ≤ i → slope t.d (get_or h (t.lo + (i - 1)) nan) (get_or h (t.hi + (i - 1)) nan) ≡ slope_of s h n i
  unfolding slope_of before_at
  slope_inner i p l =
      let u : s.own + 1 + (i - 1) ≡ s.own + i = omega arith in
      rw p (ap (λ (x : ℕ). slope s.d (get_or h x nan) (get_or h (s.own + 1 + (i - 1)) nan)) (before_inner s.along s.own s.other i n l)
      ∙ ap (λ (x : ℕ). slope s.d (get_or h (cond s.along (s.own + previous_of i n) (s.other + i)) nan) (get_or h x nan)) u)

  pub slope_first : {b : ℕ} → b ≡ cond s.along (s.own + (n - 1)) (s.other + 0) → slope s.d (get_or h b nan) (get_or h s.own nan) ≡ slope_of s h n 0
  unfolding slope_of before_at
  slope_first {b} p =
      let u : s.own ≡ s.own + 0 = omega arith in
      ap (λ (x : ℕ). slope s.d (get_or h x nan) (get_or h s.own nan)) (p ∙ before_first s.along s.own s.other n)
      ∙ ap (λ (x : ℕ). slope s.d (get_or h (cond s.along (s.own + previous_of 0 n) (s.other + 0)) nan) (get_or h x nan)) u

-- the same cells by another name of their first
pub trio_from : {f g : ℕ → Float} {old new : Scratch} {a a' z : ℕ} → Trio f g old a z new → a ≡ a' → Trio f g old a' z new
trio_from {f} {g} {old} {new} {a} {a'} {z} w e = subst (λ (k : ℕ). Trio f g old k z new) e w

-- the derivatives of the two kinds of side, by the cells' places
module _ (w v : Axis) (h tab : List Float) (n q i p a z down mem : ℕ) where
  across' : slope_of (side_across w tab p a z (v.at + q) (v.at + down) mem) h n i ≡ derivative w v h (down + i) (q + i)
  unfolding slope_of before_at
  across' = rw (add_assoc v.at q i, add_assoc v.at down i)

  pub across_slope : {s : Side} → s ≡ side_across w tab p a z (v.at + q) (v.at + down) mem → slope_of s h n i ≡ derivative w v h (down + i) (q + i)
  across_slope r = rw r across'

module _ (w v : Axis) (h : List Float) (q i : ℕ) (run : Run) (mem : ℕ) where
  along' : slope_of (side_along w run (v.at + q) mem) h w.n i ≡ derivative w v h (q + previous_of i w.n) (q + i)
  unfolding slope_of before_at
  along' = rw (add_assoc v.at q i, add_assoc v.at q (previous_of i w.n))

  pub along_slope : {s : Side} → s ≡ side_along w run (v.at + q) mem → slope_of s h w.n i ≡ derivative w v h (q + previous_of i w.n) (q + i)
  along_slope r = rw r along'

-- ---- which cells move
pub within_in : (a z i : ℕ) → a ≤ i → i < z → within a z i ≡ true
within_in a z i g h = rw (le-leb a i g) (lt-ltb i z h)

pub within_low : (a z i : ℕ) → i < a → within a z i ≡ false
within_low a z i h = rw (lt-leb a i h)

pub within_high : (a z i : ℕ) → a ≤ i → z ≤ i → within a z i ≡ false
within_high a z i g h = rw (le-leb a i g) (le-ltb i z h)

within_case : (x : Bool) (a z i : ℕ) → leb a i ≡ x → (x && ltb i z) ≡ true → (a ≤ i) × (i < z)
within_case true a z i p e = (leb-true a i p, ltb-true i z e)
within_case false a z i p e = absurd (let c : ◌≡◌ {A = ℕ} 0 1 = cc in omega arith)

pub within_of : (a z i : ℕ) → within a z i ≡ true → (a ≤ i) × (i < z)
within_of a z i e = within_case (leb a i) a z i refl e

-- an axis that does not wrap has a wall at its first place and one at its last
inner_case : (x y : Bool) (n i : ℕ) → eqb i 0 ≡ x → eqb i (n - 1) ≡ y → i < n → not (x || y) ≡ within 1 (n - 1) i
inner_case true y n i p q l = sym (within_low 1 (n - 1) i (omega (arith, eqb-true i 0 p)))
inner_case false true n i p q l =
    let e : i ≡ n - 1 = eqb-true i (n - 1) q in
    let o : 1 ≤ i = ⊎_elim (λ z. absurd (eqb-false i 0 p (sym z))) (λ g. omega arith) (eq-or-lt_of_le (omega arith)) in
    sym (within_high 1 (n - 1) i o (omega arith))
inner_case false false n i p q l =
    let o : 1 ≤ i = ⊎_elim (λ z. absurd (eqb-false i 0 p (sym z))) (λ g. omega arith) (eq-or-lt_of_le (omega arith)) in
    let u : i < n - 1 = ⊎_elim (λ z. absurd (eqb-false i (n - 1) q z)) (λ g. g) (eq-or-lt_of_le (omega arith)) in
    sym (within_in 1 (n - 1) i o u)

one_case : (o : Bool) (n i z : ℕ) → eqb n 1 ≡ o → z ≡ cond o 1 (n - 1) → i < n → within 1 (n - 1) i ≡ within 1 z i
one_case true n i z p e l = let u : i < 1 = omega (arith, eqb-true n 1 p) in within_low 1 (n - 1) i u ∙ sym (within_low 1 z i u)
one_case false n i z p e l = ap (λ (x : ℕ). within 1 x i) (sym e)

pub walls : (wraps : Bool) (n i a z : ℕ) → a ≡ cond wraps 0 1 → z ≡ cond wraps n (cond (eqb n 1) 1 (n - 1)) → i < n
    → not (not wraps && (eqb i 0 || eqb i (n - 1))) ≡ within a z i
walls true n i a z ea ez l = sym (within_in a z i (omega arith) (omega arith))
walls false n i a z ea ez l =
    inner_case (eqb i 0) (eqb i (n - 1)) n i refl refl l ∙ one_case (eqb n 1) n i z refl ez l ∙ ap (λ (x : ℕ). within x z i) (sym ea)

pub start_le : (b : Bool) (a : ℕ) → a ≡ cond b 0 1 → a ≤ 1
start_le true a e = omega arith
start_le false a e = omega arith

end_case : (o : Bool) (n z : ℕ) → eqb n 1 ≡ o → z ≡ cond o 1 (n - 1) → 1 ≤ n → (1 ≤ z) × (z ≤ n)
end_case true n z p e h = (omega arith, omega arith)
end_case false n z p e h =
    let u : 1 < n = ⊎_elim (λ x. absurd (eqb-false n 1 p (sym x))) (λ g. g) (eq-or-lt_of_le h) in (omega arith, omega arith)

pub end_fits : (b : Bool) (n z : ℕ) → z ≡ cond b n (cond (eqb n 1) 1 (n - 1)) → 1 ≤ n → (1 ≤ z) × (z ≤ n)
end_fits true n z e h = (omega arith, omega arith)
end_fits false n z e h = end_case (eqb n 1) n z refl e h
