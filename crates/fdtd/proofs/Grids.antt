-- What the rows of a study's grid give, cell by cell, and then the whole stores. Both half steps: they differ in the cells beside a cell and in the formulas.
-- Assumes nothing.
use mathlib.Core.Path.{◌≡◌, refl, sym, ◌∙◌, ap}
use mathlib.Core.Bool.{cond}
use mathlib.Core.List.{List}
use Prim.Native.Nat.{ℕ, zero, suc, ◌+◌, ◌*◌, ◌/◌, ◌%◌, ◌<◌}
use native.Mathlib.Nat.{add_assoc}
use native.Mathlib.Omega.{arith}
use lib.Dec.{eqb}
use lib.ListN.{length, get_or}
use lib.Ieee.{Float, nan}
use Rattle.cells.specs.Cells.{cell_index, components}
use Rattle.cells.proofs.Pointwise.{cells_same}
use Rattle.cells.proofs.Extensional.{components_are}
use Rattle.grid.specs.declared.Record.{Record}
use Rattle.grid.specs.Stores.{cells}
use Rattle.fdtd.specs.declared.Axis.{Axis}
use Rattle.fdtd.specs.declared.turns.Turn.{Turn}
use Rattle.fdtd.specs.Axes.{by_axis, axis, turn, place}
use Rattle.fdtd.specs.Inner.Turns.{row_at, turn_x, turn_y, turn_z, NewNumbers, Comp, Done}
use Rattle.fdtd.proofs.Places.{row_number}
use Rattle.fdtd.proofs.Fits.{place_x, place_y, place_z}

-- the cell (i, j, k), told by its row, is told by its place
told : (F : (cell ob oc nb nc : ℕ) → Float) (l : List Float) (a row i cell ob oc nb nc ob' oc' nb' nc' : ℕ) → row + i ≡ cell → ob' ≡ ob → oc' ≡ oc → nb' ≡ nb → nc' ≡ nc
    → get_or l (a + row + i) nan ≡ F (row + i) ob' oc' nb' nc' → get_or l (a + cell) nan ≡ F cell ob oc nb nc
told F l a row i cell ob oc nb nc ob' oc' nb' nc' ec eb ed eu ev p =
    ap (λ (x : ℕ). get_or l x nan) (ap (λ (x : ℕ). a + x) (sym ec) ∙ sym (add_assoc a row i)) ∙ p ∙ rw (ec, eb, ed, eu, ev)

-- the cell beside (i, j, k) on an axis, where near gives the place beside a place
abbrev beside : Record → (near : (p n : ℕ) → ℕ) → ℕ → (i j k : ℕ) → ℕ
beside r near a i j k =
    by_axis (cell_index r.nx r.ny (near i r.nx) j k) (cell_index r.nx r.ny i (near j r.ny) k) (cell_index r.nx r.ny i j (near k r.nz)) a

-- a formula of a number along A by its cell, its places on B and C and the cells beside it there, for the component a of the cell (i, j, k)
abbrev pub Of : (r : Record) (from : ℕ) (near : (p n : ℕ) → ℕ) → ((A B C : Axis) (cell onB onC nearB nearC : ℕ) → Float) → (a i j k : ℕ) → Float
Of r from near f a i j k =
    f (axis r from a) (axis r from (turn a)) (axis r from (turn (turn a))) (cell_index r.nx r.ny i j k) (place (turn a) i j k) (place (turn (turn a)) i j k)
    (beside r near (turn a) i j k) (beside r near (turn (turn a)) i j k)

-- F, G, K are what is made of a number and of its two memories; from the stores v and m the rows made v' and m'
module _ (r : Record) (from : ℕ) (near : (p n : ℕ) → ℕ) (near-less : (p n : ℕ) → p < n → near p n < n) (v m v' m' : List Float)
    (F G K : (A B C : Axis) (cell onB onC nearB nearC : ℕ) → Float) where
  abbrev cell_of : (i j k : ℕ) → ℕ
  cell_of i j k = cell_index r.nx r.ny i j k

  abbrev Each : ((i j k : ℕ) → Type 0) → Type 0
  Each P = (i j k : ℕ) → i < r.nx → j < r.ny → k < r.nz → P i j k

  abbrev made : Turn → (A B C : Axis) → (onB onC nearB nearC : (s t i : ℕ) → ℕ) → NewNumbers
  made g A B C onB onC nearB nearC =
      record {
        field = λ s t i. F A B C (row_at g s t + i) (onB s t i) (onC s t i) (nearB s t i) (nearC s t i);
        first = λ s t i. G A B C (row_at g s t + i) (onB s t i) (onC s t i) (nearB s t i) (nearC s t i);
        second = λ s t i. K A B C (row_at g s t + i) (onB s t i) (onC s t i) (nearB s t i) (nearC s t i);
      }

  -- all rows are made
  abbrev pub Rows : Turn → Type 0
  Rows g =
      Done g
      (made g g.r g.s g.t (λ s t i. s) (λ s t i. t) (λ s t i. row_at g (near s g.s.n) t + i) (λ s t i. row_at g s (near t g.t.n) + i))
      (made g g.s g.t g.r (λ s t i. t) (λ s t i. i) (λ s t i. row_at g s (near t g.t.n) + i) (λ s t i. row_at g s t + near i g.r.n))
      (made g g.t g.r g.s (λ s t i. i) (λ s t i. s) (λ s t i. row_at g s t + near i g.r.n) (λ s t i. row_at g (near s g.s.n) t + i))
      v m (g.t.n * g.s.n) v' m'

  -- one component of every cell
  record Component (A B C : Axis) (onB onC nearB nearC : (i j k : ℕ) → ℕ) : Type 0 where
    field : Each (λ i j k. get_or v' (A.at + cell_of i j k) nan ≡ F A B C (cell_of i j k) (onB i j k) (onC i j k) (nearB i j k) (nearC i j k))
    first : Each (λ i j k. get_or m' (A.mem + cell_of i j k) nan ≡ G A B C (cell_of i j k) (onB i j k) (onC i j k) (nearB i j k) (nearC i j k))
    second : Each (λ i j k. get_or m' (A.mem + cells r + cell_of i j k) nan ≡ K A B C (cell_of i j k) (onB i j k) (onC i j k) (nearB i j k) (nearC i j k))

  abbrev Along : ℕ → Type 0
  Along a = Component (axis r from a) (axis r from (turn a)) (axis r from (turn (turn a))) (place (turn a)) (place (turn (turn a))) (beside r near (turn a)) (beside r near (turn (turn a)))

  -- in rows: the cell stands at the place on_r of the row (on_s, on_t)
  module _ (g : Turn) (same : g.count ≡ cells r) (on_r on_s on_t : (i j k : ℕ) → ℕ)
      (lessR : Each (λ i j k. on_r i j k < g.r.n)) (lessS : Each (λ i j k. on_s i j k < g.s.n)) (lessT : Each (λ i j k. on_t i j k < g.t.n))
      (stands : Each (λ i j k. row_at g (on_s i j k) (on_t i j k) + on_r i j k ≡ cell_of i j k))
      (A B C : Axis) (pb pc nb nc : ℕ → ℕ → ℕ → ℕ) (onB onC nearB nearC : (i j k : ℕ) → ℕ)
      (eb : Each (λ i j k. pb (on_s i j k) (on_t i j k) (on_r i j k) ≡ onB i j k))
      (ec : Each (λ i j k. pc (on_s i j k) (on_t i j k) (on_r i j k) ≡ onC i j k))
      (eu : Each (λ i j k. nb (on_s i j k) (on_t i j k) (on_r i j k) ≡ nearB i j k))
      (ev : Each (λ i j k. nc (on_s i j k) (on_t i j k) (on_r i j k) ≡ nearC i j k))
      (w : Comp g A (made g A B C pb pc nb nc) v m (g.t.n * g.s.n) v' m') where
    component : Component A B C onB onC nearB nearC
    component =
        record {
          field = λ i j k x y z.
              told (F A B C) v' A.at
              (row_at g (on_s i j k) (on_t i j k)) (on_r i j k) _ _ _ _ _ _ _ _ _ (stands i j k x y z) (eb i j k x y z) (ec i j k x y z) (eu i j k x y z) (ev i j k x y z)
              (w.field.at (on_s i j k) (on_t i j k) (on_r i j k) (lessR i j k x y z) (lessS i j k x y z) (row_number (lessS i j k x y z) (lessT i j k x y z)));
          first = λ i j k x y z.
              told (G A B C) m' A.mem
              (row_at g (on_s i j k) (on_t i j k)) (on_r i j k) _ _ _ _ _ _ _ _ _ (stands i j k x y z) (eb i j k x y z) (ec i j k x y z) (eu i j k x y z) (ev i j k x y z)
              (w.first.at (on_s i j k) (on_t i j k) (on_r i j k) (lessR i j k x y z) (lessS i j k x y z) (row_number (lessS i j k x y z) (lessT i j k x y z)));
          second = λ i j k x y z.
              told (K A B C) m' (A.mem + cells r)
              (row_at g (on_s i j k) (on_t i j k)) (on_r i j k) _ _ _ _ _ _ _ _ _ (stands i j k x y z) (eb i j k x y z) (ec i j k x y z) (eu i j k x y z) (ev i j k x y z)
              (rw same at (w.second.at (on_s i j k) (on_t i j k) (on_r i j k) (lessR i j k x y z) (lessS i j k x y z) (row_number (lessS i j k x y z) (lessT i j k x y z))));
        }

  pub record All : Type 0 where
    x : Along 0
    y : Along 1
    z : Along 2

  pub in_x : Rows (turn_x r from) → All
  in_x w =
      let nx = r.nx in
      let ny = r.ny in
      let nz = r.nz in
      record {
        x = component (turn_x r from) refl (place 0) (place 1) (place 2) (λ i j k x y z. x) (λ i j k x y z. y) (λ i j k x y z. z) (λ i j k x y z. place_x i j k nx ny) _ _ _ _ _ _ _ _ _ _ _
            (λ i j k x y z. refl) (λ i j k x y z. refl) (λ i j k x y z. place_x i (near j ny) k nx ny) (λ i j k x y z. place_x i j (near k nz) nx ny) w.along_r;
        y = component (turn_x r from) refl (place 0) (place 1) (place 2) (λ i j k x y z. x) (λ i j k x y z. y) (λ i j k x y z. z) (λ i j k x y z. place_x i j k nx ny) _ _ _ _ _ _ _ _ _ _ _
            (λ i j k x y z. refl) (λ i j k x y z. refl) (λ i j k x y z. place_x i j (near k nz) nx ny) (λ i j k x y z. place_x (near i nx) j k nx ny) w.along_s;
        z = component (turn_x r from) refl (place 0) (place 1) (place 2) (λ i j k x y z. x) (λ i j k x y z. y) (λ i j k x y z. z) (λ i j k x y z. place_x i j k nx ny) _ _ _ _ _ _ _ _ _ _ _
            (λ i j k x y z. refl) (λ i j k x y z. refl) (λ i j k x y z. place_x (near i nx) j k nx ny) (λ i j k x y z. place_x i (near j ny) k nx ny) w.along_t;
      }

  module _ (en : r.nx ≡ 1) where
    p_y : (i j k : ℕ) → i < r.nx → row_at (turn_y r from) k i + j ≡ cell_of i j k
    p_y i j k x = place_y i j k r.nx r.ny r.nz en x

    pub in_y : Rows (turn_y r from) → All
    in_y w =
        let nx = r.nx in
        let ny = r.ny in
        let nz = r.nz in
        record {
          x = component (turn_y r from) refl (place 1) (place 2) (place 0) (λ i j k x y z. y) (λ i j k x y z. z) (λ i j k x y z. x) (λ i j k x y z. p_y i j k x) _ _ _ _ _ _ _ _ _ _ _
              (λ i j k x y z. refl) (λ i j k x y z. refl) (λ i j k x y z. p_y i (near j ny) k x) (λ i j k x y z. p_y i j (near k nz) x) w.along_t;
          y = component (turn_y r from) refl (place 1) (place 2) (place 0) (λ i j k x y z. y) (λ i j k x y z. z) (λ i j k x y z. x) (λ i j k x y z. p_y i j k x) _ _ _ _ _ _ _ _ _ _ _
              (λ i j k x y z. refl) (λ i j k x y z. refl) (λ i j k x y z. p_y i j (near k nz) x) (λ i j k x y z. p_y (near i nx) j k (near-less i nx x)) w.along_r;
          z = component (turn_y r from) refl (place 1) (place 2) (place 0) (λ i j k x y z. y) (λ i j k x y z. z) (λ i j k x y z. x) (λ i j k x y z. p_y i j k x) _ _ _ _ _ _ _ _ _ _ _
              (λ i j k x y z. refl) (λ i j k x y z. refl) (λ i j k x y z. p_y (near i nx) j k (near-less i nx x)) (λ i j k x y z. p_y i (near j ny) k x) w.along_s;
        }

    module _ (em : r.ny ≡ 1) where
      p_z : (i j k : ℕ) → i < r.nx → j < r.ny → row_at (turn_z r from) i j + k ≡ cell_of i j k
      p_z i j k x y = place_z i j k r.nx r.ny r.nz en em x y

      pub in_z : Rows (turn_z r from) → All
      in_z w =
          let nx = r.nx in
          let ny = r.ny in
          let nz = r.nz in
          record {
            x = component (turn_z r from) refl (place 2) (place 0) (place 1) (λ i j k x y z. z) (λ i j k x y z. x) (λ i j k x y z. y) (λ i j k x y z. p_z i j k x y) _ _ _ _ _ _ _ _ _ _ _
                (λ i j k x y z. refl) (λ i j k x y z. refl) (λ i j k x y z. p_z i (near j ny) k x (near-less j ny y)) (λ i j k x y z. p_z i j (near k nz) x y) w.along_s;
            y = component (turn_z r from) refl (place 2) (place 0) (place 1) (λ i j k x y z. z) (λ i j k x y z. x) (λ i j k x y z. y) (λ i j k x y z. p_z i j k x y) _ _ _ _ _ _ _ _ _ _ _
                (λ i j k x y z. refl) (λ i j k x y z. refl) (λ i j k x y z. p_z i j (near k nz) x y) (λ i j k x y z. p_z (near i nx) j k (near-less i nx x) y) w.along_t;
            z = component (turn_z r from) refl (place 2) (place 0) (place 1) (λ i j k x y z. z) (λ i j k x y z. x) (λ i j k x y z. y) (λ i j k x y z. p_z i j k x y) _ _ _ _ _ _ _ _ _ _ _
                (λ i j k x y z. refl) (λ i j k x y z. refl) (λ i j k x y z. p_z (near i nx) j k (near-less i nx x) y) (λ i j k x y z. p_z i (near j ny) k x (near-less j ny y)) w.along_r;
          }

  -- ---- by the numbers of the stores
  at_number : (l : List Float) (a at i j k : ℕ) → at ≡ a * cells r → get_or l (a * (r.nz * (r.ny * r.nx)) + cell_of i j k) nan ≡ get_or l (at + cell_of i j k) nan
  at_number l a at i j k p =
      ap (λ (n : ℕ). get_or l n nan) (ap (λ (n : ℕ). a * n + cell_of i j k) (sym (cells_same r.nx r.ny r.nz)) ∙ ap (λ (n : ℕ). n + cell_of i j k) (sym p))

  module _ (w : All) (len : length v' ≡ 3 * cells r) (f : (a i j k : ℕ) → Float)
      (is : (a i j k : ℕ) → (axis r from a).at ≡ a * cells r → Of r from near F a i j k ≡ f a i j k) where
    field_at : (a : ℕ) → (axis r from a).at ≡ a * cells r → Along a → Each (λ i j k. get_or v' (a * (r.nz * (r.ny * r.nx)) + cell_of i j k) nan ≡ f a i j k)
    field_at a p o i j k x y z = at_number v' a (axis r from a).at i j k p ∙ o.field i j k x y z ∙ is a i j k p

    each : (a : ℕ) → a < 3 → Each (λ i j k. get_or v' (a * (r.nz * (r.ny * r.nx)) + cell_of i j k) nan ≡ f a i j k)
    each zero p = field_at 0 (omega arith) w.x
    each (suc zero) p = field_at 1 (omega arith) w.y
    each (suc (suc zero)) p = field_at 2 (omega arith) w.z
    each (suc (suc (suc n))) p = absurd (omega arith)

    pub field_is : v' ≡ components 3 r.nx r.ny r.nz f
    field_is =
        components_are nan r.nx r.ny r.nz 3 f v' (len ∙ ap (λ (n : ℕ). 3 * n) (cells_same r.nx r.ny r.nz))
        (λ a i j k q x y z. each a q i j k x y z)

  module _ (w : All) (len : length m' ≡ 6 * cells r) (g h : (a i j k : ℕ) → Float)
      (isG : (a i j k : ℕ) → Of r from near G a i j k ≡ g a i j k) (isK : (a i j k : ℕ) → Of r from near K a i j k ≡ h a i j k) where
    first_at : (a n : ℕ) → (axis r from a).mem ≡ n * cells r → Along a → Each (λ i j k. get_or m' (n * (r.nz * (r.ny * r.nx)) + cell_of i j k) nan ≡ g a i j k)
    first_at a n p o i j k x y z = at_number m' n (axis r from a).mem i j k p ∙ o.first i j k x y z ∙ isG a i j k

    second_at : (a n : ℕ) → (axis r from a).mem + cells r ≡ n * cells r → Along a → Each (λ i j k. get_or m' (n * (r.nz * (r.ny * r.nx)) + cell_of i j k) nan ≡ h a i j k)
    second_at a n p o i j k x y z = at_number m' n ((axis r from a).mem + cells r) i j k p ∙ o.second i j k x y z ∙ isK a i j k

    memories : (n : ℕ) → n < 6 → Each (λ i j k. get_or m' (n * (r.nz * (r.ny * r.nx)) + cell_of i j k) nan ≡ cond (eqb (n % 2) 0) (g (n / 2) i j k) (h (n / 2) i j k))
    memories zero p = first_at 0 0 (omega arith) w.x
    memories (suc zero) p = second_at 0 1 (omega arith) w.x
    memories (suc (suc zero)) p = first_at 1 2 (omega arith) w.y
    memories (suc (suc (suc zero))) p = second_at 1 3 (omega arith) w.y
    memories (suc (suc (suc (suc zero)))) p = first_at 2 4 (omega arith) w.z
    memories (suc (suc (suc (suc (suc zero))))) p = second_at 2 5 (omega arith) w.z
    memories (suc (suc (suc (suc (suc (suc n)))))) p = absurd (omega arith)

    pub memories_are : m' ≡ components 6 r.nx r.ny r.nz (λ n i j k. cond (eqb (n % 2) 0) (g (n / 2) i j k) (h (n / 2) i j k))
    memories_are =
        components_are nan r.nx r.ny r.nz 6 _ m' (len ∙ ap (λ (n : ℕ). 6 * n) (cells_same r.nx r.ny r.nz))
        (λ n i j k q x y z. memories n q i j k x y z)
