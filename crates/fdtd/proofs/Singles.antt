-- A half step that goes cell by cell: one cell more of one component, which leaves the others; of all three; a row from its first cell to its last.
-- Assumes nothing.
use mathlib.Core.Path.{◌≡◌, refl, ◌∙◌, ap, subst}
use mathlib.Core.Logic.{⊎_elim}
use mathlib.Core.Bool.{Bool, true, false}
use mathlib.Core.List.{List}
use Prim.Native.Nat.{ℕ, ◌+◌, ◌*◌, ◌≤◌, ◌<◌}
use native.Mathlib.Nat.{add_assoc, eq-or-lt_of_le, not-suc-le-zero}
use native.Mathlib.Omega.{arith}
use lib.ListN.{length, get_or, set, length-set}
use lib.Seq.{get_or-set_same, get_or-set_other}
use lib.Ieee.{Float, nan}
use Rattle.root.specs.Rounded.{◌⊗◌, ◌⊖◌, one_f}
use Rattle.fdtd.specs.declared.Axis.{Axis}
use Rattle.fdtd.specs.declared.Coef.{Coef}
use Rattle.fdtd.specs.declared.turns.Turn.{Turn}
use Rattle.fdtd.specs.Yee.{term, psi_added, joins, derivative, coef_at, in_layer, memory_after, curl}
use Rattle.fdtd.specs.Inner.Cell.{curl_on, first_on, second_on, curl_by, first_by, second_by}
use Rattle.fdtd.specs.Inner.Turns.{row_at, Apart, Laid, NewNumbers, Part, Comp, Done}
use Rattle.fdtd.specs.Inner.Begun.{Lone, Both, Stored, Begun, Going, Doing}
use Rattle.fdtd.proofs.Cellwise.{memory_stays}
use Rattle.fdtd.proofs.Places.{row_more, row_apart, row_one}
use Rattle.fdtd.proofs.Components.{b_own, c_own}
use Rattle.fdtd.proofs.Lines.{apart_back}

-- ---- one store
pub lone_set : (old : List Float) (p : ℕ) {v w : Float} → p < length old → v ≡ w → Lone w old p (set old p v)
lone_set old p {v} h e =
    record {
      len = length-set old p v;
      here = get_or-set_same old p v nan h ∙ e;
      under = λ q l. get_or-set_other old p q v nan (omega arith);
      over = λ q l. get_or-set_other old p q v nan (omega arith);
    }

pub lone_kept : (old : List Float) (p : ℕ) {v : Float} → get_or old p nan ≡ v → Lone v old p old
lone_kept old p e = record { len = refl; here = e; under = λ q l. refl; over = λ q l. refl }

pub lone_as : {old new : List Float} {p : ℕ} {v w : Float} → Lone v old p new → v ≡ w → Lone w old p new
lone_as s e = record { len = s.len; here = s.here ∙ e; under = s.under; over = s.over }

-- two, one after the other
pub both_of : {old mid new : List Float} {p r : ℕ} {v w : Float} → Lone v old p mid → Lone w mid r new → p < r → Both v w old p r new
both_of {old} {mid} {new} {p} {r} a b h =
    record {
      len = b.len ∙ a.len;
      first = b.under p h ∙ a.here;
      second = b.here;
      under = λ q l. b.under q (omega arith) ∙ a.under q l;
      mid = λ q l u. b.under q u ∙ a.over q l;
      over = λ q l. b.over q l ∙ a.over q (omega arith);
    }

pub both_kept : (old : List Float) (p r : ℕ) {v w : Float} → get_or old p nan ≡ v → get_or old r nan ≡ w → Both v w old p r old
both_kept old p r a b = record { len = refl; first = a; second = b; under = λ q l. refl; mid = λ q l u. refl; over = λ q l. refl }

pub both_as : {old new : List Float} {p r : ℕ} {v w v' w' : Float} → Both v w old p r new → v ≡ v' → w ≡ w' → Both v' w' old p r new
both_as s a b = record { len = s.len; first = s.first ∙ a; second = s.second ∙ b; under = s.under; mid = s.mid; over = s.over }

-- a side's layer that is on, and one that is off
module _ (on : Bool) (k : Coef) (m d : Float) where
  pub layer_on : (second : Bool) (u : Float) {r t s : Float} → on ≡ true → r ≡ joins second u t s → t ≡ psi_added k m d → s ≡ (one_f ⊖ k.kinv) ⊗ d → r ≡ in_layer second (term on k m d) u
  layer_on second u o er et es = er ∙ rw (o, et, es)

  pub layer_off : (second : Bool) (u : Float) → on ≡ false → u ≡ in_layer second (term on k m d) u
  layer_off second u o = rw o

-- both sides, one after the other
module _ (bon con : Bool) (kb kc : Coef) (x y mb mc mc' : Float) where
  pub curl_both : {u v : Float} → u ≡ in_layer false (term bon kb mb x) (x ⊖ y) → v ≡ in_layer true (term con kc mc' y) u → mc' ≡ mc → v ≡ curl (term bon kb mb x) (term con kc mc y)
  unfolding curl
  curl_both eu ev em = ev ∙ rw (em, eu)

pub memory_both : (on : Bool) (k : Coef) (y : Float) {v : Float} {old mid new : List Float} {p r : ℕ} → Lone v old p mid → Lone (memory_after true (term on k (get_or mid r nan) y)) mid r new
    → p < r → Both v (memory_after true (term on k (get_or old r nan) y)) old p r new
memory_both on k y {r = r} a b h = both_as (both_of a b h) refl (ap (λ (z : Float). memory_after true (term on k z y)) (a.over r h))

-- ---- what a cell takes is what the definition has there
over_go : (go on : Bool) (k : Coef) (m d : Float) → go ≡ true → memory_after true (term on k m d) ≡ memory_after go (term on k m d)
over_go go on k m d e = rw e

module _ (A B C : Axis) (count : ℕ) (field mem : List Float) (cell loB hiB loC hiC : ℕ) where
  module _ (kb kc : Coef) where
    abbrev mb : Float
    mb = get_or mem (A.mem + cell) nan

    abbrev mc : Float
    mc = get_or mem (A.mem + count + cell) nan

    -- its number moves
    module _ {x y : Float} (ex : x ≡ derivative B C field loB hiB) (ey : y ≡ derivative C B field loC hiC) where
      pub curl_taken : curl (term B.on kb mb x) (term C.on kc mc y) ≡ curl_by A B C count field mem cell loB hiB loC hiC kb kc
      unfolding curl_by
      curl_taken = rw (ex, ey)

      first_taken : (go : Bool) → go ≡ true → memory_after true (term B.on kb mb x) ≡ first_by A B C count field mem cell loB hiB loC hiC kb kc go
      unfolding first_by
      first_taken go g = rw ex (over_go go B.on _ _ _ g)

      second_taken : (go : Bool) → go ≡ true → memory_after true (term C.on kc mc y) ≡ second_by A B C count field mem cell loB hiB loC hiC kb kc go
      unfolding second_by
      second_taken go g = rw ey (over_go go C.on _ _ _ g)

      pub memories_taken : (go : Bool) {mem' : List Float} → go ≡ true → Both (memory_after true (term B.on kb mb x)) (memory_after true (term C.on kc mc y)) mem (A.mem + cell) (A.mem + count + cell) mem'
          → Both (first_by A B C count field mem cell loB hiB loC hiC kb kc go) (second_by A B C count field mem cell loB hiB loC hiC kb kc go) mem (A.mem + cell) (A.mem + count + cell) mem'
      memories_taken go g b = both_as b (first_taken go g) (second_taken go g)

    first_go : (go : Bool) → go ≡ true → first_by A B C count field mem cell loB hiB loC hiC kb kc true ≡ first_by A B C count field mem cell loB hiB loC hiC kb kc go
    first_go go g = rw g

    second_go : (go : Bool) → go ≡ true → second_by A B C count field mem cell loB hiB loC hiC kb kc true ≡ second_by A B C count field mem cell loB hiB loC hiC kb kc go
    second_go go g = rw g

    pub memories_go : (go : Bool) {mem' : List Float} → go ≡ true
        → Both (first_by A B C count field mem cell loB hiB loC hiC kb kc true) (second_by A B C count field mem cell loB hiB loC hiC kb kc true) mem (A.mem + cell) (A.mem + count + cell) mem'
        → Both (first_by A B C count field mem cell loB hiB loC hiC kb kc go) (second_by A B C count field mem cell loB hiB loC hiC kb kc go) mem (A.mem + cell) (A.mem + count + cell) mem'
    memories_go go g b = both_as b (first_go go g) (second_go go g)

    -- it does not
    first_left : (go : Bool) → go ≡ false → mb ≡ first_by A B C count field mem cell loB hiB loC hiC kb kc go
    unfolding first_by
    first_left go g = memory_stays _ _ _ go B.on g

    second_left : (go : Bool) → go ≡ false → mc ≡ second_by A B C count field mem cell loB hiB loC hiC kb kc go
    unfolding second_by
    second_left go g = memory_stays _ _ _ go C.on g

    pub memories_left : (go : Bool) → go ≡ false
        → Both (first_by A B C count field mem cell loB hiB loC hiC kb kc go) (second_by A B C count field mem cell loB hiB loC hiC kb kc go) mem (A.mem + cell) (A.mem + count + cell) mem
    memories_left go g = both_kept _ _ _ (first_left go g) (second_left go g)

  -- by the tables
  module _ (tab : List Float) (onB onC : ℕ) where
    pub by_curl : curl_by A B C count field mem cell loB hiB loC hiC (coef_at B tab onB) (coef_at C tab onC) ≡ curl_on A B C count field tab mem cell onB onC loB hiB loC hiC
    unfolding curl_by curl_on
    by_curl = refl

    by_first : (go : Bool) → first_by A B C count field mem cell loB hiB loC hiC (coef_at B tab onB) (coef_at C tab onC) go ≡ first_on A B C count field tab mem cell onB onC loB hiB loC hiC go
    unfolding first_by first_on
    by_first go = refl

    by_second : (go : Bool) → second_by A B C count field mem cell loB hiB loC hiC (coef_at B tab onB) (coef_at C tab onC) go ≡ second_on A B C count field tab mem cell onB onC loB hiB loC hiC go
    unfolding second_by second_on
    by_second go = refl

-- a cell's memories hang on the store by its own alone
pub own_memories : (A B C : Axis) (count : ℕ) (field tab m m₀ : List Float) (q i onB onC loB hiB loC hiC : ℕ) (go : Bool)
    → get_or m (A.mem + (q + i)) nan ≡ get_or m₀ (A.mem + (q + i)) nan → get_or m (A.mem + count + (q + i)) nan ≡ get_or m₀ (A.mem + count + (q + i)) nan
    → (first_by A B C count field m (q + i) loB hiB loC hiC (coef_at B tab onB) (coef_at C tab onC) go ≡ first_on A B C count field tab m₀ (q + i) onB onC loB hiB loC hiC go)
    × (second_by A B C count field m (q + i) loB hiB loC hiC (coef_at B tab onB) (coef_at C tab onC) go ≡ second_on A B C count field tab m₀ (q + i) onB onC loB hiB loC hiC go)
own_memories A B C count field tab m m₀ q i onB onC loB hiB loC hiC go b c = (
  by_first A B C count field m (q + i) loB hiB loC hiC tab onB onC go ∙ b_own A B C count field tab m q i onB onC loB hiB loC hiC m₀ b c go,
  by_second A B C count field m (q + i) loB hiB loC hiC tab onB onC go ∙ c_own A B C count field tab m q i onB onC loB hiB loC hiC m₀ b c go,
)

-- ---- one component of a store
module _ (n s count : ℕ) (f : ℕ → ℕ → ℕ → Float) (lo : ℕ) (old : List Float) (j k : ℕ) where
  pub begun_start : {new : List Float} → Part n s count f lo old (j + k * s) new → Begun n s count f lo old j k 0 new
  begun_start w = record { rows = w.at; row = λ c l. absurd (not-suc-le-zero l); rest = λ q l u. w.rest q (omega arith) u }

  module _ (new : List Float) (hj : j < s) (w : Begun n s count f lo old j k n new) where
    this : (j' k' c : ℕ) → c < n → j' < s → j' + k' * s ≡ j + k * s → get_or new (lo + (j' + k' * s) * n + c) nan ≡ f j' k' c
    this j' k' c hc hj' e =
        let ek : k' ≡ k = row_one hj' hj e in
        let ej : j' ≡ j = omega (arith, ap (λ (x : ℕ). x * s) ek) in
        rw (ej, ek) (w.row c hc)

    pub begun_end : Part n s count f lo old (j + 1 + k * s) new
    begun_end =
        record {
          at = λ j' k' c hc hj' h. ⊎_elim (λ e. this j' k' c hc hj' e) (λ l. w.rows j' k' c hc hj' l) (eq-or-lt_of_le (omega arith));
          rest = λ q h u.
              let m : (j + 1 + k * s) * n ≡ (j + k * s) * n + n = ap (λ (x : ℕ). x * n) (omega arith) ∙ row_more (j + k * s) n in
              w.rest q (omega arith) u;
        }

  module _ (new next : List Float) (i : ℕ) (w : Begun n s count f lo old j k i new) where
    -- nothing of this component was stored
    pub begun_keep : (j + k * s) * n + i ≤ count → ((q : ℕ) → lo ≤ q → q < lo + count → get_or next q nan ≡ get_or new q nan) → Begun n s count f lo old j k i next
    begun_keep h same =
        record {
          rows = λ j' k' c hc hj' l. same (lo + (j' + k' * s) * n + c) (omega arith) (omega (arith, row_apart n l)) ∙ w.rows j' k' c hc hj' l;
          row = λ c l. same (lo + (j + k * s) * n + c) (omega arith) (omega arith) ∙ w.row c l;
          rest = λ q l u. same q (omega arith) u ∙ w.rest q l u;
        }

    -- the cell i of the row was
    module _ (before : (q : ℕ) → lo ≤ q → q < lo + ((j + k * s) * n + i) → get_or next q nan ≡ get_or new q nan)
        (own : get_or next (lo + ((j + k * s) * n + i)) nan ≡ f j k i)
        (after : (q : ℕ) → lo + ((j + k * s) * n + i) < q → q < lo + count → get_or next q nan ≡ get_or new q nan) where
      own_at : (c : ℕ) → c ≡ i → get_or next (lo + (j + k * s) * n + c) nan ≡ f j k c
      own_at c e = rw (e, add_assoc lo ((j + k * s) * n) i) own

      pub begun_step : Begun n s count f lo old j k (i + 1) next
      begun_step =
          record {
            rows = λ j' k' c hc hj' l. before (lo + (j' + k' * s) * n + c) (omega arith) (omega (arith, row_apart n l)) ∙ w.rows j' k' c hc hj' l;
            row = λ c l. ⊎_elim (λ e. own_at c e) (λ u. before (lo + (j + k * s) * n + c) (omega arith) (omega arith) ∙ w.row c u) (eq-or-lt_of_le (omega arith));
            rest = λ q l u. after q (omega arith) u ∙ w.rest q (omega arith) u;
          }

-- ---- the number along one axis and its memories
-- what a cell stored is what is to be made, if its own numbers are still those of x₀ and m₀
abbrev pub Fair : Turn → Axis → NewNumbers → (s t i : ℕ) → (u v w : Float) → (x₀ m₀ x m : List Float) → Type 0
Fair g A d s t i u v w x₀ m₀ x m =
    get_or x (A.at + (row_at g s t + i)) nan ≡ get_or x₀ (A.at + (row_at g s t + i)) nan
    → get_or m (A.mem + (row_at g s t + i)) nan ≡ get_or m₀ (A.mem + (row_at g s t + i)) nan
    → get_or m (A.mem + g.count + (row_at g s t + i)) nan ≡ get_or m₀ (A.mem + g.count + (row_at g s t + i)) nan
    → (u ≡ d.field s t i) × (v ≡ d.first s t i) × (w ≡ d.second s t i)

module _ (g : Turn) (x₀ m₀ x m x' m' : List Float) (s t i : ℕ) (fits : row_at g s t + i < g.count) (A : Axis) (u v w : Float)
    (go : Stored A g.count (row_at g s t + i) u v w x m x' m') where
  module _ (d : NewNumbers) (fair : Fair g A d s t i u v w x₀ m₀ x m) (c : Going g A d x₀ m₀ s t i x m) where
    made : (u ≡ d.field s t i) × (v ≡ d.first s t i) × (w ≡ d.second s t i)
    made =
        fair (c.field.rest (A.at + (row_at g s t + i)) (omega arith) (omega arith))
        (c.first.rest (A.mem + (row_at g s t + i)) (omega arith) (omega arith))
        (c.second.rest (A.mem + g.count + (row_at g s t + i)) (omega arith) (omega arith))

    pub going_own : Going g A d x₀ m₀ s t (i + 1) x' m'
    going_own =
        record {
          field = begun_step _ _ _ _ _ _ _ _ x x' i c.field (λ q a b. go.0.under q b) (go.0.here ∙ made.0) (λ q a b. go.0.over q a);
          first = begun_step _ _ _ _ _ _ _ _ m m' i c.first (λ q a b. go.1.under q b) (go.1.first ∙ made.1) (λ q a b. go.1.mid q a (omega arith));
          second = begun_step _ _ _ _ _ _ _ _ m m' i c.second (λ q a b. go.1.mid q (omega arith) b) (go.1.second ∙ made.2) (λ q a b. go.1.over q a);
        }

  -- the cell of this component leaves that of another
  module _ (A' : Axis) (d' : NewNumbers) (k : ℕ) (few : row_at g s t + k ≤ g.count) (c : Going g A' d' x₀ m₀ s t k x m) where
    same_x : Apart g.count A A' → (q : ℕ) → A'.at ≤ q → q < A'.at + g.count → get_or x' q nan ≡ get_or x q nan
    same_x p q a b = ⊎_elim (λ y. go.0.over q (omega arith)) (λ y. go.0.under q (omega arith)) p

    same_m : Apart g.count A A' → (q : ℕ) → A'.mem ≤ q → q < A'.mem + g.count + g.count → get_or m' q nan ≡ get_or m q nan
    same_m p q a b = ⊎_elim (λ y. go.1.over q (omega arith)) (λ y. go.1.under q (omega arith)) p

    pub going_off : Apart g.count A A' → Going g A' d' x₀ m₀ s t k x' m'
    going_off p =
        record {
          field = begun_keep _ _ _ _ _ _ _ _ x x' k c.field few (λ q a b. same_x p q a b);
          first = begun_keep _ _ _ _ _ _ _ _ m m' k c.first few (λ q a b. same_m p q a (omega arith));
          second = begun_keep _ _ _ _ _ _ _ _ m m' k c.second few (λ q a b. same_m p q (omega arith) b);
        }

-- ---- all three
module _ (g : Turn) (laid : Laid g) (R S T : NewNumbers) (x₀ m₀ x m x1 m1 x2 m2 x3 m3 : List Float) (s t i : ℕ) (fits : row_at g s t + i < g.count)
    (u1 v1 w1 u2 v2 w2 u3 v3 w3 : Float)
    (one : Stored g.r g.count (row_at g s t + i) u1 v1 w1 x m x1 m1) (two : Stored g.s g.count (row_at g s t + i) u2 v2 w2 x1 m1 x2 m2)
    (three : Stored g.t g.count (row_at g s t + i) u3 v3 w3 x2 m2 x3 m3)
    (fr : Fair g g.r R s t i u1 v1 w1 x₀ m₀ x m) (fs : Fair g g.s S s t i u2 v2 w2 x₀ m₀ x1 m1) (ft : Fair g g.t T s t i u3 v3 w3 x₀ m₀ x2 m2)
    (w : Doing g R S T x₀ m₀ s t i x m) where
  few : row_at g s t + i ≤ g.count
  few = omega arith

  more : row_at g s t + (i + 1) ≤ g.count
  more = omega arith

  pub cell_law : Doing g R S T x₀ m₀ s t (i + 1) x3 m3
  cell_law =
      let r1 = going_own g x₀ m₀ x m x1 m1 s t i fits g.r _ _ _ one R fr w.along_r in
      let s1 = going_off g x₀ m₀ x m x1 m1 s t i fits g.r _ _ _ one g.s S _ few w.along_s laid.rs in
      let t1 = going_off g x₀ m₀ x m x1 m1 s t i fits g.r _ _ _ one g.t T _ few w.along_t laid.rt in
      let r2 = going_off g x₀ m₀ x1 m1 x2 m2 s t i fits g.s _ _ _ two g.r R _ more r1 (apart_back g.count g.r g.s laid.rs) in
      let s2 = going_own g x₀ m₀ x1 m1 x2 m2 s t i fits g.s _ _ _ two S fs s1 in
      let t2 = going_off g x₀ m₀ x1 m1 x2 m2 s t i fits g.s _ _ _ two g.t T _ few t1 laid.st in
      record {
        len_x = three.0.len ∙ two.0.len ∙ one.0.len ∙ w.len_x;
        len_m = three.1.len ∙ two.1.len ∙ one.1.len ∙ w.len_m;
        along_r = going_off g x₀ m₀ x2 m2 x3 m3 s t i fits g.t _ _ _ three g.r R _ more r2 (apart_back g.count g.r g.t laid.rt);
        along_s = going_off g x₀ m₀ x2 m2 x3 m3 s t i fits g.t _ _ _ three g.s S _ more s2 (apart_back g.count g.s g.t laid.st);
        along_t = going_own g x₀ m₀ x2 m2 x3 m3 s t i fits g.t _ _ _ three T ft t2;
      }

-- from the rows before to the row's first cell, and from its last to the rows with it
going_start : (g : Turn) (A : Axis) (d : NewNumbers) (x₀ m₀ x m : List Float) (s t : ℕ) → Comp g A d x₀ m₀ (s + t * g.s.n) x m → Going g A d x₀ m₀ s t 0 x m
going_start g A d x₀ m₀ x m s t w =
    record { field = begun_start _ _ _ _ _ _ s t w.field; first = begun_start _ _ _ _ _ _ s t w.first; second = begun_start _ _ _ _ _ _ s t w.second }

going_end : (g : Turn) (A : Axis) (d : NewNumbers) (x₀ m₀ x m : List Float) (s t : ℕ) → s < g.s.n → Going g A d x₀ m₀ s t g.r.n x m → Comp g A d x₀ m₀ (s + 1 + t * g.s.n) x m
going_end g A d x₀ m₀ x m s t h w =
    record { field = begun_end _ _ _ _ _ _ s t x h w.field; first = begun_end _ _ _ _ _ _ s t m h w.first; second = begun_end _ _ _ _ _ _ s t m h w.second }

module _ {g : Turn} {R S T : NewNumbers} {x₀ m₀ x m : List Float} (s t : ℕ) where
  pub doing_start : Done g R S T x₀ m₀ (s + t * g.s.n) x m → Doing g R S T x₀ m₀ s t 0 x m
  doing_start w =
      record {
        len_x = w.len_x;
        len_m = w.len_m;
        along_r = going_start g g.r R x₀ m₀ x m s t w.along_r;
        along_s = going_start g g.s S x₀ m₀ x m s t w.along_s;
        along_t = going_start g g.t T x₀ m₀ x m s t w.along_t;
      }

  pub doing_end : {i : ℕ} → s < g.s.n → i ≡ g.r.n → Doing g R S T x₀ m₀ s t i x m → Done g R S T x₀ m₀ (s + 1 + t * g.s.n) x m
  doing_end h e v =
      let w = subst (λ (k : ℕ). Doing g R S T x₀ m₀ s t k x m) e v in
      record {
        len_x = w.len_x;
        len_m = w.len_m;
        along_r = going_end g g.r R x₀ m₀ x m s t h w.along_r;
        along_s = going_end g g.s S x₀ m₀ x m s t h w.along_s;
        along_t = going_end g g.t T x₀ m₀ x m s t h w.along_t;
      }
