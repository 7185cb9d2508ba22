-- A row of one component more, which leaves the others; a row of all three. Assumes nothing.
use mathlib.Core.Path.{◌≡◌, ◌∙◌, subst}
use mathlib.Core.Logic.{inl, inr, ⊎_elim}
use mathlib.Core.List.{List}
use Prim.Native.Nat.{ℕ, ◌+◌, ◌*◌, ◌≤◌, ◌<◌}
use native.Mathlib.Omega.{arith}
use lib.ListN.{get_or}
use lib.Ieee.{Float, nan}
use Rattle.fdtd.specs.declared.Axis.{Axis}
use Rattle.fdtd.specs.declared.turns.Turn.{Turn}
use Rattle.fdtd.specs.Inner.Span.{Span, Two}
use Rattle.fdtd.specs.Inner.Turns.{row_at, Apart, Laid, NewNumbers, Comp, Done}
use Rattle.fdtd.proofs.Places.{row_in, row_number}
use Rattle.fdtd.proofs.Parts.{part_keep, part_step}

-- a row stored: the numbers along A hold F, their memories G and K
abbrev pub Stored : Turn → Axis → (s t : ℕ) → (F G K : ℕ → Float) → (x m x' m' : List Float) → Type 0
Stored g A s t F G K x m x' m' =
    Span F x (A.at + row_at g s t) 0 g.r.n x' × Two G K m (A.mem + row_at g s t) (A.mem + g.count + row_at g s t) 0 g.r.n m'

-- F, G, K are what is to be made, if the cell's own numbers are still those of x₀ and m₀
abbrev pub Right : Turn → Axis → NewNumbers → (s t : ℕ) → (F G K : ℕ → Float) → (x₀ m₀ x m : List Float) → Type 0
Right g A w s t F G K x₀ m₀ x m =
    (i : ℕ) → i < g.r.n
    → get_or x (A.at + (row_at g s t + i)) nan ≡ get_or x₀ (A.at + (row_at g s t + i)) nan
    → get_or m (A.mem + (row_at g s t + i)) nan ≡ get_or m₀ (A.mem + (row_at g s t + i)) nan
    → get_or m (A.mem + g.count + (row_at g s t + i)) nan ≡ get_or m₀ (A.mem + g.count + (row_at g s t + i)) nan
    → (F i ≡ w.field s t i) × (G i ≡ w.first s t i) × (K i ≡ w.second s t i)

module _ (g : Turn) (laid : Laid g) (x₀ m₀ x m x' m' : List Float) (s t : ℕ) (hs : s < g.s.n) (ht : t < g.t.n) (A : Axis) (F G K : ℕ → Float)
    (go : Stored g A s t F G K x m x' m') where
  fits : row_at g s t + g.r.n ≤ g.count
  fits = omega (arith, row_in g.r.n hs ht, laid.rows.whole)

  module _ (v : NewNumbers) (right : Right g A v s t F G K x₀ m₀ x m) (w : Comp g A v x₀ m₀ (s + t * g.s.n) x m) where
    made : (i : ℕ) → i < g.r.n → (F i ≡ v.field s t i) × (G i ≡ v.first s t i) × (K i ≡ v.second s t i)
    made i l =
        right i l (w.field.rest (A.at + (row_at g s t + i)) (omega arith) (omega (arith, fits)))
        (w.first.rest (A.mem + (row_at g s t + i)) (omega arith) (omega (arith, fits)))
        (w.second.rest (A.mem + g.count + (row_at g s t + i)) (omega arith) (omega (arith, fits)))

    pub comp_own : Comp g A v x₀ m₀ (s + 1 + t * g.s.n) x' m'
    comp_own =
        record {
          field = part_step _ _ _ _ _ _ g.t.n laid.rows.whole x x' s t w.field hs ht
              (λ q a b. go.0.under q (omega arith))
              (λ i l. go.0.at i (omega arith) l ∙ (made i l).0)
              (λ q a b. go.0.over q a);
          first = part_step _ _ _ _ _ _ g.t.n laid.rows.whole m m' s t w.first hs ht
              (λ q a b. go.1.under q (omega arith))
              (λ i l. go.1.first i (omega arith) l ∙ (made i l).1)
              (λ q a b. go.1.mid q a (omega arith));
          second = part_step _ _ _ _ _ _ g.t.n laid.rows.whole m m' s t w.second hs ht
              (λ q a b. go.1.mid q (omega (arith, fits)) (omega arith))
              (λ i l. go.1.second i (omega arith) l ∙ (made i l).2)
              (λ q a b. go.1.over q a);
        }

  -- the row of this component leaves that of another
  module _ (A' : Axis) (v' : NewNumbers) (r : ℕ) (few : r ≤ g.t.n * g.s.n) (w : Comp g A' v' x₀ m₀ r x m) where
    same_x : Apart g.count A A' → (q : ℕ) → A'.at ≤ q → q < A'.at + g.count → get_or x' q nan ≡ get_or x q nan
    same_x p q a b = ⊎_elim (λ y. go.0.over q (omega (arith, fits))) (λ y. go.0.under q (omega arith)) p

    same_m : Apart g.count A A' → (q : ℕ) → A'.mem ≤ q → q < A'.mem + g.count + g.count → get_or m' q nan ≡ get_or m q nan
    same_m p q a b = ⊎_elim (λ y. go.1.over q (omega (arith, fits))) (λ y. go.1.under q (omega arith)) p

    pub comp_off : Apart g.count A A' → Comp g A' v' x₀ m₀ r x' m'
    comp_off p =
        record {
          field = part_keep _ _ _ _ _ _ g.t.n laid.rows.whole x x' r w.field few (λ q a b. same_x p q a b);
          first = part_keep _ _ _ _ _ _ g.t.n laid.rows.whole m m' r w.first few (λ q a b. same_m p q a (omega arith));
          second = part_keep _ _ _ _ _ _ g.t.n laid.rows.whole m m' r w.second few (λ q a b. same_m p q (omega arith) b);
        }

pub apart_back : (count : ℕ) (A B : Axis) → Apart count A B → Apart count B A
apart_back count A B p = ⊎_elim (λ x. inr x) (λ x. inl x) p

-- a row of all three
module _ (g : Turn) (laid : Laid g) (R S T : NewNumbers) (x₀ m₀ x m x1 m1 x2 m2 x3 m3 : List Float) (s t : ℕ) (hs : s < g.s.n) (ht : t < g.t.n)
    (F1 G1 K1 F2 G2 K2 F3 G3 K3 : ℕ → Float)
    (one : Stored g g.r s t F1 G1 K1 x m x1 m1) (two : Stored g g.s s t F2 G2 K2 x1 m1 x2 m2) (three : Stored g g.t s t F3 G3 K3 x2 m2 x3 m3)
    (rr : Right g g.r R s t F1 G1 K1 x₀ m₀ x m) (rs : Right g g.s S s t F2 G2 K2 x₀ m₀ x1 m1) (rt : Right g g.t T s t F3 G3 K3 x₀ m₀ x2 m2)
    (w : Done g R S T x₀ m₀ (s + t * g.s.n) x m) where
  few : s + t * g.s.n ≤ g.t.n * g.s.n
  few = omega (arith, row_number hs ht)

  more : s + 1 + t * g.s.n ≤ g.t.n * g.s.n
  more = omega (arith, row_number hs ht)

  pub line_law : Done g R S T x₀ m₀ (s + 1 + t * g.s.n) x3 m3
  line_law =
      let r1 = comp_own g laid x₀ m₀ x m x1 m1 s t hs ht g.r F1 G1 K1 one R rr w.along_r in
      let s1 = comp_off g laid x₀ m₀ x m x1 m1 s t hs ht g.r F1 G1 K1 one g.s S _ few w.along_s laid.rs in
      let t1 = comp_off g laid x₀ m₀ x m x1 m1 s t hs ht g.r F1 G1 K1 one g.t T _ few w.along_t laid.rt in
      let r2 = comp_off g laid x₀ m₀ x1 m1 x2 m2 s t hs ht g.s F2 G2 K2 two g.r R _ more r1 (apart_back g.count g.r g.s laid.rs) in
      let s2 = comp_own g laid x₀ m₀ x1 m1 x2 m2 s t hs ht g.s F2 G2 K2 two S rs s1 in
      let t2 = comp_off g laid x₀ m₀ x1 m1 x2 m2 s t hs ht g.s F2 G2 K2 two g.t T _ few t1 laid.st in
      record {
        len_x = three.0.len ∙ two.0.len ∙ one.0.len ∙ w.len_x;
        len_m = three.1.len ∙ two.1.len ∙ one.1.len ∙ w.len_m;
        along_r = comp_off g laid x₀ m₀ x2 m2 x3 m3 s t hs ht g.t F3 G3 K3 three g.r R _ more r2 (apart_back g.count g.r g.t laid.rt);
        along_s = comp_off g laid x₀ m₀ x2 m2 x3 m3 s t hs ht g.t F3 G3 K3 three g.s S _ more s2 (apart_back g.count g.s g.t laid.st);
        along_t = comp_own g laid x₀ m₀ x2 m2 x3 m3 s t hs ht g.t F3 G3 K3 three T rt t2;
      }

-- the same number of rows
pub done_as : {g : Turn} {R S T : NewNumbers} {x₀ m₀ x m : List Float} {r r' : ℕ} → Done g R S T x₀ m₀ r x m → r ≡ r' → Done g R S T x₀ m₀ r' x m
done_as {g} {R} {S} {T} {x₀} {m₀} {x} {m} w p = subst (λ (k : ℕ). Done g R S T x₀ m₀ k x m) p w
