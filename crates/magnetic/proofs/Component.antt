-- A row of one component is what the definition has there, whichever way its sides lie. Assumes nothing.
use mathlib.Core.Path.{◌≡◌, refl}
use mathlib.Core.Logic.{⊎_elim}
use mathlib.Core.Bool.{Bool, true, false, cond, ◌&&◌}
use mathlib.Core.List.{List}
use Prim.Native.Nat.{ℕ, ◌+◌, ◌≤◌, ◌<◌}
use native.Mathlib.Nat.{add_assoc}
use native.Mathlib.Omega.{arith}
use lib.ListN.{get_or}
use lib.Ieee.{Float, nan}
use Rattle.fdtd.specs.declared.Axis.{Axis}
use Rattle.fdtd.specs.declared.rows.Side.{Side}
use Rattle.fdtd.specs.Yee.{moves_h, updated_h}
use Rattle.fdtd.specs.Inner.Rows.{side_memory}
use Rattle.fdtd.specs.Inner.Span.{Span, Two}
use Rattle.fdtd.proofs.Spans.{span_as, span_more, span_kept}
use Rattle.fdtd.proofs.Stands.{Stands}
use Rattle.fdtd.proofs.Components.{at_curl, idle_mem, moved_mem}
use Rattle.magnetic.specs.Inner.Row.{slope_of, field_of, field_h, Moved}

-- over variables
pub and_true : (x y : Bool) → x ≡ true → y ≡ true → (x && y) ≡ true
and_true x y p q = rw (p, q)

pub and_left : (x y : Bool) → x ≡ false → (x && y) ≡ false
and_left x y p = rw p

pub and_right : (x y : Bool) → y ≡ false → (x && y) ≡ false
and_right true y p = p
and_right false y p = refl

pick_go : (go : Bool) (x y : Float) → go ≡ true → x ≡ cond go x y
pick_go go x y e = rw e

pick_stop : (go : Bool) (x y : Float) → go ≡ false → y ≡ cond go x y
pick_stop go x y e = rw e

module _ (A B C : Axis) (count : ℕ) (e tab mem : List Float) (q i onB onC upB up_c : ℕ) where
  at_h : (b c : Side) (n : ℕ) (fac h : List Float) → Stands b B C e tab mem (slope_of b e n i) q i onB (q + i) upB A.mem
      → Stands c C B e tab mem (slope_of c e n i) q i onC (q + i) up_c (A.mem + count) → moves_h B C onB onC ≡ true
      → field_of b c e tab mem fac h n (A.at + q) i ≡ field_h A B C count e tab mem (q + i) onB onC upB up_c (get_or fac i nan) h
  unfolding field_of field_h updated_h
  at_h b c n fac h sb sc g = rw (at_curl A B C count e tab mem q i onB onC (q + i) upB (q + i) up_c b c _ _ sb sc, add_assoc A.at q i) (pick_go _ _ _ g)

  stop_h : moves_h B C onB onC ≡ false → (h : List Float) (f : Float) → get_or h (A.at + q + i) nan ≡ field_h A B C count e tab mem (q + i) onB onC upB up_c f h
  unfolding field_h updated_h
  stop_h g h f = rw (add_assoc A.at q i) (pick_stop _ _ _ g)

module _ (A B C : Axis) (count : ℕ) (e tab mem fac h : List Float) (q n : ℕ) (onB onC upB up_c : ℕ → ℕ) where
  -- nothing moves
  pub idle : ((i : ℕ) → moves_h B C (onB i) (onC i) ≡ false) → Moved A B C count e tab mem fac h q n onB onC upB up_c h mem
  idle g = (
    span_kept _ _ _ _ _ (λ i l. stop_h A B C count e tab mem q i _ _ _ _ (g i) h _),
    idle_mem A B C count e tab mem q n onB onC (λ i. q + i) upB (λ i. q + i) up_c (λ i. moves_h B C (onB i) (onC i)) g,
  )

  -- the first m cells do
  module _ (b c : Side) (m : ℕ) (h' mem' : List Float) (most : m ≤ n) (room : n ≤ count)
      (sb : (i : ℕ) → Stands b B C e tab mem (slope_of b e n i) q i (onB i) (q + i) (upB i) A.mem)
      (sc : (i : ℕ) → Stands c C B e tab mem (slope_of c e n i) q i (onC i) (q + i) (up_c i) (A.mem + count))
      (go : (i : ℕ) → i < m → moves_h B C (onB i) (onC i) ≡ true)
      (stop : (i : ℕ) → m ≤ i → i < n → moves_h B C (onB i) (onC i) ≡ false)
      (hh : Span (field_of b c e tab mem fac h n (A.at + q)) h (A.at + q) 0 m h')
      (mm : Two (λ i. side_memory b tab mem i (slope_of b e n i)) (λ i. side_memory c tab mem i (slope_of c e n i)) mem b.mem c.mem 0 m mem') where
    pub moved : Moved A B C count e tab mem fac h q n onB onC upB up_c h' mem'
    moved = (
      span_more _ _ _ _ (span_as _ _ _ _ hh (λ i u l. at_h A B C count e tab mem q i _ _ _ _ b c n fac h (sb i) (sc i) (go i l))) (omega arith) most
          (λ i u l. stop_h A B C count e tab mem q i _ _ _ _ (stop i u l) h _),
      moved_mem A B C count e tab mem q n onB onC (λ i. q + i) upB (λ i. q + i) up_c (λ i. moves_h B C (onB i) (onC i)) b c (slope_of b e n) (slope_of c e n) 0 m mem' most room
          sb sc (λ i k l. go i l) (λ i l. ⊎_elim (λ u. absurd (omega arith)) (λ u. stop i u l)) mm (omega arith),
    )
