-- The derivatives that the passes take are the row's: at a cell that is not the last, at the last, and across. Assumes nothing.
use mathlib.Core.Path.{◌≡◌, refl, ◌∙◌, ap}
use mathlib.Core.Bool.{Bool, true, false, cond, ◌&&◌, ◌||◌}
use mathlib.Core.List.{List}
use Prim.Native.Nat.{ℕ, ◌+◌, ◌-◌, ◌≤◌, ◌<◌}
use native.Mathlib.Nat.{add_assoc}
use native.Mathlib.Omega.{arith}
use borrow.Author.Tests.{lt-ltb, le-ltb, eqb-false}
use lib.Dec.{ltb, eqb}
use lib.ListN.{get_or}
use lib.Ieee.{Float, nan}
use Rattle.fdtd.specs.declared.Axis.{Axis}
use Rattle.fdtd.specs.declared.rows.Differences.{Differences}
use Rattle.fdtd.specs.declared.rows.Side.{Side}
use Rattle.fdtd.specs.declared.turns.Run.{Run}
use Rattle.fdtd.specs.Axes.{next_of}
use Rattle.fdtd.specs.Yee.{slope, derivative}
use Rattle.fdtd.specs.Inner.Turns.{side_across, side_along}
use Rattle.magnetic.specs.Inner.Row.{ahead_of, next_at, slope_of}

next_ahead : (b : Bool) (own other i n : ℕ) → (b ≡ true → i + 1 < n) → cond b (own + 1) other + i ≡ cond b (own + next_of i n) (other + i)
next_ahead true own other i n h = rw (lt-ltb (i + 1) n (h refl)) (omega arith)
next_ahead false own other i n h = refl

next_last : (b : Bool) (own other i n : ℕ) → n ≡ i + 1 → cond b (own + 0) (other + i) ≡ cond b (own + next_of i n) (other + i)
next_last true own other i n h = rw (le-ltb (i + 1) n (omega arith)) (omega arith)
next_last false own other i n h = omega arith

-- a pass from the cell 0 on counts from there
from_first : (d : Float) (e : List Float) (lo hi i : ℕ) → slope d (get_or e (lo + (i - 0)) nan) (get_or e (hi + (i - 0)) nan) ≡ slope d (get_or e (lo + i) nan) (get_or e (hi + i) nan)
from_first d e lo hi i = let z : i - 0 ≡ i = omega arith in ap (λ (x : ℕ). slope d (get_or e (lo + x) nan) (get_or e (hi + x) nan)) z

module _ (s : Side) (e : List Float) (n i : ℕ) where
  pub slope_ahead : {t : Differences} → t ≡ ahead_of s → (s.along ≡ true → i + 1 < n) → slope t.d (get_or e (t.lo + (i - 0)) nan) (get_or e (t.hi + (i - 0)) nan) ≡ slope_of s e n i
  unfolding slope_of next_at
  slope_ahead p h =
      rw p (from_first s.d e s.own (cond s.along (s.own + 1) s.other) i
      ∙ ap (λ (x : ℕ). slope s.d (get_or e (s.own + i) nan) (get_or e x nan)) (next_ahead s.along s.own s.other i n h))

  pub slope_last : {b : ℕ} → b ≡ cond s.along (s.own + 0) (s.other + i) → n ≡ i + 1 → slope s.d (get_or e (s.own + i) nan) (get_or e b nan) ≡ slope_of s e n i
  unfolding slope_of next_at
  slope_last {b} p h =
      ap (λ (x : ℕ). slope s.d (get_or e (s.own + i) nan) (get_or e x nan)) (p ∙ next_last s.along s.own s.other i n h)

-- where the last cell's neighbour is not the first, no side lies along a whole row
off_left : (a b : Bool) → (a && b) ≡ false → b ≡ true → a ≡ false
off_left true b p q = cc
off_left false b p q = refl

or_left : (x y : Bool) → x ≡ true → (x || y) ≡ true
or_left x y p = rw p

or_right : (x y : Bool) → y ≡ true → (x || y) ≡ true
or_right true y p = refl
or_right false y p = p

module _ (x y : Bool) (m n : ℕ) (p : (eqb m n && (x || y)) ≡ false) (most : m ≤ n) where
  short_of : (x || y) ≡ true → m < n
  short_of q = omega (arith, eqb-false m n (off_left (eqb m n) (x || y) p q))

  pub short_x : x ≡ true → m < n
  short_x q = short_of (or_left x y q)

  pub short_y : y ≡ true → m < n
  short_y q = short_of (or_right x y q)

-- the derivatives of the two kinds of side, by the cells' places
module _ (w v : Axis) (e tab : List Float) (n q i p a z up mem : ℕ) where
  across' : slope_of (side_across w tab p a z (v.at + q) (v.at + up) mem) e n i ≡ derivative w v e (q + i) (up + i)
  unfolding slope_of next_at
  across' = rw (add_assoc v.at q i, add_assoc v.at up i)

  pub across_slope : {s : Side} → s ≡ side_across w tab p a z (v.at + q) (v.at + up) mem → slope_of s e n i ≡ derivative w v e (q + i) (up + i)
  across_slope r = rw r across'

module _ (w v : Axis) (e : List Float) (q i : ℕ) (run : Run) (mem : ℕ) where
  along' : slope_of (side_along w run (v.at + q) mem) e w.n i ≡ derivative w v e (q + i) (q + next_of i w.n)
  unfolding slope_of next_at
  along' = rw (add_assoc v.at q i, add_assoc v.at q (next_of i w.n))

  pub along_slope : {s : Side} → s ≡ side_along w run (v.at + q) mem → slope_of s e w.n i ≡ derivative w v e (q + i) (q + next_of i w.n)
  along_slope r = rw r along'

-- which cells have one after them
always : (b : Bool) → (b || true) ≡ true
always true = refl
always false = refl

pub reach_in : (b : Bool) (i n end : ℕ) → end ≡ cond b n (n - 1) → i < end → (ltb (i + 1) n || b) ≡ true
reach_in true i n end e h = always (ltb (i + 1) n)
reach_in false i n end e h = rw (lt-ltb (i + 1) n (omega arith))

pub reach_out : (b : Bool) (i n end : ℕ) → end ≡ cond b n (n - 1) → end ≤ i → i < n → (ltb (i + 1) n || b) ≡ false
reach_out true i n end e h l = absurd (omega arith)
reach_out false i n end e h l = rw (le-ltb (i + 1) n (omega arith))

pub reach_le : (b : Bool) (n end : ℕ) → end ≡ cond b n (n - 1) → end ≤ n
reach_le true n end e = omega arith
reach_le false n end e = omega arith
