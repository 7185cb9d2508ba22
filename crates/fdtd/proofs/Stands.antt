-- The sides that the code hands over stand for the axes of the definition. Assumes nothing.
use mathlib.Core.Path.{◌≡◌, refl}
use mathlib.Core.Bool.{Bool, true, false, cond}
use mathlib.Core.List.{List}
use Prim.Native.Nat.{ℕ, ◌+◌, ◌≤◌, ◌<◌}
use native.Mathlib.Nat.{add_assoc, le_refl}
use native.Mathlib.Omega.{arith}
use lib.ListN.{length, get_or}
use lib.Ieee.{Float, nan, eq}
use Rattle.root.specs.Rounded.{zero_f}
use Rattle.fdtd.specs.declared.Axis.{Axis}
use Rattle.fdtd.specs.declared.rows.Side.{Side}
use Rattle.fdtd.specs.declared.turns.Run.{Run}
use Rattle.fdtd.specs.Yee.{term, derivative, coef_at, in_layer, memory_after}
use Rattle.fdtd.specs.Inner.Rows.{k_of, side_layered, side_memory, Calm, SideRoom}
use Rattle.fdtd.specs.Inner.Turns.{side_across, side_along, Lull}

-- for the cell q + i, which has the place p on w: deriv is the derivative along w of the number along v, and its memory stands from base on
pub record Stands (s : Side) (w v : Axis) (e tab mem : List Float) (deriv : Float) (q i p lo hi base : ℕ) : Type 0 where
  pub slopes : deriv ≡ derivative w v e lo hi
  pub layers : (second : Bool) (d u : Float) → side_layered second s tab mem i d u ≡ in_layer second (term w.on (coef_at w tab p) (get_or mem (base + (q + i)) nan) d) u
  pub mems : (d : Float) → side_memory s tab mem i d ≡ memory_after true (term w.on (coef_at w tab p) (get_or mem (base + (q + i)) nan) d)
  pub begins : s.mem ≡ base + q

module _ (w v : Axis) (e tab mem : List Float) (q i p a z own other base : ℕ) where
  across_layer : (second : Bool) (d u : Float) → side_layered second (side_across w tab p a z own other (base + q)) tab mem i d u ≡ in_layer second (term w.on (coef_at w tab p) (get_or mem (base + (q + i)) nan) d) u
  unfolding side_layered k_of
  across_layer second d u = rw (add_assoc base q i)

  across_mem : (d : Float) → side_memory (side_across w tab p a z own other (base + q)) tab mem i d ≡ memory_after true (term w.on (coef_at w tab p) (get_or mem (base + (q + i)) nan) d)
  unfolding side_memory k_of
  across_mem d = rw (add_assoc base q i)

  pub stands_across : {s : Side} {deriv : Float} {lo hi : ℕ} → s ≡ side_across w tab p a z own other (base + q) → deriv ≡ derivative w v e lo hi → Stands s w v e tab mem deriv q i p lo hi base
  stands_across r d = rw r (record { slopes = d; layers = across_layer; mems = across_mem; begins = refl })

module _ (w v : Axis) (e tab mem : List Float) (q i : ℕ) (run : Run) (own base : ℕ) where
  along_layer : (second : Bool) (d u : Float) → side_layered second (side_along w run own (base + q)) tab mem i d u ≡ in_layer second (term w.on (coef_at w tab i) (get_or mem (base + (q + i)) nan) d) u
  unfolding side_layered k_of
  along_layer second d u = rw (add_assoc base q i)

  along_mem : (d : Float) → side_memory (side_along w run own (base + q)) tab mem i d ≡ memory_after true (term w.on (coef_at w tab i) (get_or mem (base + (q + i)) nan) d)
  unfolding side_memory k_of
  along_mem d = rw (add_assoc base q i)

  pub stands_along : {s : Side} {deriv : Float} {lo hi : ℕ} → s ≡ side_along w run own (base + q) → deriv ≡ derivative w v e lo hi → Stands s w v e tab mem deriv q i i lo hi base
  stands_along r d = rw r (record { slopes = d; layers = along_layer; mems = along_mem; begins = refl })

-- what the rows ask of a side: a part from at on has room for the row from q on, and so has a memory
pub row_fits : (at q n count l : ℕ) → at + count ≤ l → q + n ≤ count → at + q + n ≤ l
row_fits at q n count l h k = omega arith

pub row_le : (q n count : ℕ) → q + n ≤ count → n ≤ count
row_le q n count h = omega arith

pub lower : (at count l : ℕ) → at + count + count ≤ l → at + count ≤ l
lower at count l h = omega arith

pub thrice : (at n m l : ℕ) → at + n + n + n ≤ l → m ≤ n → m ≤ l
thrice at n m l h k = omega arith

pub mem_apart : (base q n count x y : ℕ) → x ≡ base + q → y ≡ base + count + q → q + n ≤ count → x + n ≤ y
mem_apart base q n count x y ex ey h = omega arith

lo_ge : (b : Bool) (a z : ℕ) → a ≤ z → a ≤ cond b a z
lo_ge true a z h = le_refl a
lo_ge false a z h = h

lo_le : (b : Bool) (a z : ℕ) → a ≤ z → cond b a z ≤ z
lo_le true a z h = h
lo_le false a z h = le_refl z

lo_quiet : (b : Bool) (a z i : ℕ) → cond b a z ≤ i → i < z → b ≡ true
lo_quiet true a z i g h = refl
lo_quiet false a z i g h = absurd (omega arith)

module _ (w : Axis) (tab : List Float) (p a z own other mm : ℕ) where
  calm : a ≤ z → Calm (side_across w tab p a z own other mm) tab a z
  unfolding k_of
  calm h =
      let b : Bool = eq (get_or tab (w.tab + w.n + w.n + p) nan) zero_f in
      record { from = lo_ge b a z h; order = lo_le b a z h; upto = le_refl z; quiet = λ i g l. lo_quiet b a z i g l }

  pub calm_across : {s : Side} → s ≡ side_across w tab p a z own other mm → a ≤ z → Calm s tab a z
  calm_across r h = rw r (calm h)

  pub room_across : {s : Side} {e mem : List Float} {n : ℕ} → s ≡ side_across w tab p a z own other mm → own + n ≤ length e → other + n ≤ length e → n ≤ length tab → mm + n ≤ length mem → SideRoom s e tab mem n
  room_across r k l t d = rw r (record { own = k; other = l; tabs = omega arith; mems = d })

module _ (w : Axis) (tab : List Float) (run : Run) (own mm : ℕ) where
  lull : {a z : ℕ} → Lull w tab a z run → Calm (side_along w run own mm) tab a z
  unfolding k_of
  lull l = record { from = l.from; order = l.order; upto = l.upto; quiet = l.quiet }

  pub calm_along : {s : Side} {a z : ℕ} → s ≡ side_along w run own mm → Lull w tab a z run → Calm s tab a z
  calm_along r l = rw r (lull l)

  pub room_along : {s : Side} {e mem : List Float} {n : ℕ} → s ≡ side_along w run own mm → own + n ≤ length e → w.tab + w.n + w.n + n ≤ length tab → mm + n ≤ length mem → SideRoom s e tab mem n
  room_along r k t d = rw r (record { own = k; other = k; tabs = t; mems = d })
