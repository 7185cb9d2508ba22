-- A row of one component is what the definition has there, whichever way its sides lie. Assumes nothing.
use mathlib.Core.Path.{◌≡◌, refl, sym, ◌∙◌, ap}
use mathlib.Core.Logic.{⊎_elim}
use mathlib.Core.Bool.{Bool, not, true, false, cond, ◌||◌}
use mathlib.Core.List.{List}
use Prim.Native.Nat.{ℕ, ◌+◌, ◌≤◌, ◌<◌}
use native.Mathlib.Nat.{add_assoc}
use native.Mathlib.Omega.{arith}
use lib.ListN.{get_or}
use lib.Ieee.{Float, nan}
use Rattle.root.specs.Rounded.{zero_f}
use Rattle.fdtd.specs.declared.Axis.{Axis}
use Rattle.fdtd.specs.declared.rows.Side.{Side}
use Rattle.fdtd.specs.Yee.{moves_e, updated_e}
use Rattle.fdtd.specs.Inner.Rows.{side_memory}
use Rattle.fdtd.specs.Inner.Span.{Span, Two}
use Rattle.fdtd.proofs.Spans.{span_as}
use Rattle.fdtd.proofs.Stands.{Stands}
use Rattle.fdtd.proofs.Components.{at_curl, idle_mem, moved_mem}
use Rattle.electric.specs.declared.row.Change.{Change}
use Rattle.electric.specs.declared.row.Factors.{Factors}
use Rattle.cells.specs.Box.{within}
use Rattle.electric.specs.Inner.Row.{slope_of, dp_of, change_at, field_of, field_e, Moved}
use Rattle.electric.proofs.Slopes.{within_in, within_low, within_high}
use Rattle.electric.proofs.Edges.{pick_stop}

-- over variables
pub free : (x y : Bool) {x' y' : Bool} → x' ≡ x → y' ≡ y → (x' || y') ≡ false → not (x || y) ≡ true
free x y p q r = let e : (x || y) ≡ false = rw (sym p, sym q) r in rw e

pub barred : (x y : Bool) {x' y' : Bool} → x' ≡ x → y' ≡ y → (x' || y') ≡ true → not (x || y) ≡ false
barred x y p q r = let e : (x || y) ≡ true = rw (sym p, sym q) r in rw e

pub barred_left : (x y : Bool) → x ≡ true → not (x || y) ≡ false
barred_left x y p = rw p

pub barred_right : (x y : Bool) → y ≡ true → not (x || y) ≡ false
barred_right true y p = refl
barred_right false y p = rw p

pub left_free : (x y : Bool) → x ≡ false → not (x || y) ≡ not y
left_free x y p = rw p

pub right_free : (x y : Bool) → y ≡ false → not (x || y) ≡ not x
right_free true y p = refl
right_free false y p = rw p

same : (a b : Float) {go go' : Bool} {dt dt' dp dp' u u' e e' : Float} → go ≡ go' → dt ≡ dt' → dp ≡ dp' → u ≡ u' → e ≡ e'
    → updated_e go a b dt dp u e ≡ updated_e go' a b dt' dp' u' e'
same a b p o q r s = rw (p, o, q, r, s)

-- dp of a row's cells is there
pub change_fits : (w : Change) (at q n count l : ℕ) {d : Change} → d ≡ change_at w at q → w.at + at + count ≤ l → q + n ≤ count → d.at + n ≤ l
change_fits w at q n count l p h k = let e : _ ≡ w.at + at + q = ap (λ (x : Change). x.at) p in omega arith

-- dp of a row's cell
dp_own : (w d : Change) (poles : List Float) (at q i : ℕ) → d ≡ change_at w at q → dp_of d poles i ≡ dp_of w poles (at + (q + i))
unfolding dp_of
dp_own w d poles at q i p =
    let e : w.at + at + q + i ≡ w.at + (at + (q + i)) = omega arith in
    ap (λ (x : Change). cond x.on (get_or poles (x.at + i) nan) zero_f) p ∙ ap (λ (x : ℕ). cond w.on (get_or poles x nan) zero_f) e

module _ (A B C : Axis) (count : ℕ) (h tab mem : List Float) (q i onB onC downB down_c : ℕ) where
  at_e : (b c : Side) (w d : Change) (n a z : ℕ) (f : Factors) (poles e : List Float) → d ≡ change_at w A.at q
      → Stands b B C h tab mem (slope_of b h n i) q i onB downB (q + i) A.mem
      → Stands c C B h tab mem (slope_of c h n i) q i onC down_c (q + i) (A.mem + count) → moves_e B C onB onC ≡ within a z i
      → field_of b c d h tab mem f poles e n a z (A.at + q) i
      ≡ field_e A B C count h tab mem (q + i) onB onC downB down_c (get_or f.ca i nan) (get_or f.cb i nan) w.dt (dp_of w poles (A.at + (q + i))) e
  unfolding field_of field_e
  at_e b c w d n a z f poles e ed sb sc g =
      same (get_or f.ca i nan) (get_or f.cb i nan) (sym g) (ap (λ (x : Change). x.dt) ed) (dp_own w d poles A.at q i ed)
      (at_curl A B C count h tab mem q i onB onC downB (q + i) down_c (q + i) b c _ _ sb sc) (ap (λ (x : ℕ). get_or e x nan) (add_assoc A.at q i))

  stop_e : moves_e B C onB onC ≡ false → (a b dt dp : Float) (e : List Float) → zero_f ≡ field_e A B C count h tab mem (q + i) onB onC downB down_c a b dt dp e
  unfolding field_e updated_e
  stop_e g a b dt dp e = pick_stop _ _ _ g

module _ (A B C : Axis) (count : ℕ) (h tab mem : List Float) (f : Factors) (poles e : List Float) (w : Change) (q n : ℕ) (onB onC downB down_c : ℕ → ℕ) where
  -- nothing moves
  pub idle : {e' : List Float} → ((i : ℕ) → moves_e B C (onB i) (onC i) ≡ false) → Span (λ i. zero_f) e (A.at + q) 0 n e' → Moved A B C count h tab mem f poles e w q n onB onC downB down_c e' mem
  idle g s = (
    span_as _ _ _ _ s (λ i k l. stop_e A B C count h tab mem q i _ _ _ _ (g i) _ _ _ _ e),
    idle_mem A B C count h tab mem q n onB onC downB (λ i. q + i) down_c (λ i. q + i) (λ i. moves_e B C (onB i) (onC i)) g,
  )

  -- the cells from a up to z do
  module _ (b c : Side) (d : Change) (a z : ℕ) (e' mem' : List Float) (start : a ≤ z) (most : z ≤ n) (room : n ≤ count) (ed : d ≡ change_at w A.at q)
      (sb : (i : ℕ) → Stands b B C h tab mem (slope_of b h n i) q i (onB i) (downB i) (q + i) A.mem)
      (sc : (i : ℕ) → Stands c C B h tab mem (slope_of c h n i) q i (onC i) (down_c i) (q + i) (A.mem + count))
      (go : (i : ℕ) → i < n → moves_e B C (onB i) (onC i) ≡ within a z i)
      (ee : Span (field_of b c d h tab mem f poles e n a z (A.at + q)) e (A.at + q) 0 n e')
      (mm : Two (λ i. side_memory b tab mem i (slope_of b h n i)) (λ i. side_memory c tab mem i (slope_of c h n i)) mem b.mem c.mem a z mem') where
    pub moved : Moved A B C count h tab mem f poles e w q n onB onC downB down_c e' mem'
    moved = (
      span_as _ _ _ _ ee (λ i u l. at_e A B C count h tab mem q i _ _ _ _ b c w d n a z f poles e ed (sb i) (sc i) (go i l)),
      moved_mem A B C count h tab mem q n onB onC downB (λ i. q + i) down_c (λ i. q + i) (λ i. moves_e B C (onB i) (onC i)) b c (slope_of b h n) (slope_of c h n) a z mem' most room
          sb sc (λ i k l. go i (omega arith) ∙ within_in a z i k l)
          (λ i l o. go i l ∙ ⊎_elim (λ u. within_low a z i u) (λ u. within_high a z i (omega arith) u) o) mm start,
    )
