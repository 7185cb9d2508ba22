-- A half step that goes cell by cell: a cell of all three components by what its row shares. Assumes nothing.
use mathlib.Core.Path.{◌≡◌, refl, ◌∙◌, ap}
use mathlib.Core.Bool.{Bool, ◌&&◌}
use mathlib.Core.List.{List}
use Prim.Native.Nat.{ℕ, ◌+◌, ◌<◌}
use native.Mathlib.Omega.{arith}
use lib.Ieee.{Float}
use Rattle.fdtd.specs.declared.Axis.{Axis}
use Rattle.fdtd.specs.declared.Coef.{Coef}
use Rattle.fdtd.specs.declared.single.Shared.{Shared}
use Rattle.fdtd.specs.declared.turns.Turn.{Turn}
use Rattle.fdtd.specs.declared.turns.Spot.{Spot}
use Rattle.fdtd.specs.Yee.{coef_at}
use Rattle.fdtd.specs.Inner.Turns.{round, row_at, spot_of, AtSpot, Laid, NewNumbers}
use Rattle.fdtd.specs.Inner.Begun.{Rule, StoredBy, shared_of, Known, Doing}
use Rattle.fdtd.proofs.Singles.{Fair, cell_law}

-- what a row shares
module _ (g : Turn) (tab : List Float) (s t bs bt : ℕ) (gos got : Bool) where
  shared_is : {p : Spot} {ks kt : Coef} → p ≡ spot_of g s t bs bt → ks ≡ coef_at g.s tab s → kt ≡ coef_at g.t tab t
      → ◌≡◌ {A = Shared} (record { q = p.q; bs = p.bs; bt = p.bt; gos = gos; got = got; ks = ks; kt = kt }) (shared_of g tab s t bs bt gos got)
  shared_is a b c = rw (a, b, c)

  pub known_of : {p : Spot} {ks kt : Coef} → AtSpot g s t bs bt p → ks ≡ coef_at g.s tab s → kt ≡ coef_at g.t tab t
      → Known g tab s t bs bt gos got (record { q = p.q; bs = p.bs; bt = p.bt; gos = gos; got = got; ks = ks; kt = kt })
  known_of a b c = record { is = shared_is a.is b c; own = a.own; ons = a.ons; ont = a.ont }

moved_as : (v : Rule) (g g' : Turn) (x m : List Float) {x' m' : List Float} {cell cell' ns ns' nt nt' : ℕ} {go go' : Bool} {ks ks' kt kt' : Coef}
    → StoredBy v g cell ns nt go ks kt x m x' m' → g ≡ g' → cell ≡ cell' → ns ≡ ns' → nt ≡ nt' → go ≡ go' → ks ≡ ks' → kt ≡ kt' → StoredBy v g' cell' ns' nt' go' ks' kt' x m x' m'
moved_as v g g' x m w e a b c d p q = rw (← e, ← a, ← b, ← c, ← d, ← p, ← q) w

-- what the rule makes of the number along A of the cell i of the row (s, t) is what is to be made
abbrev pub FairBy : Rule → Turn → (A B C : Axis) → NewNumbers → (s t i nB nC : ℕ) → (go : Bool) → (kb kc : Coef) → (x₀ m₀ : List Float) → Type 0
FairBy v g A B C d s t i nB nC go kb kc x₀ m₀ =
    (x m : List Float) → Fair g A d s t i (v.field A B C g.count x m (row_at g s t + i) nB nC go kb kc) (v.first A B C g.count m (row_at g s t + i) nB nC go kb kc)
    (v.second A B C g.count m (row_at g s t + i) nB nC go kb kc) x₀ m₀ x m

module _ (v : Rule) (g : Turn) (laid : Laid g) (tab : List Float) (s t bs bt i : ℕ) {gos got : Bool} (w : Shared) (known : Known g tab s t bs bt gos got w) (hi : i < g.r.n)
    {nr nr' : ℕ} {gor gor' b1 b2 b3 go1 go2 go3 : Bool} {kr kr' : Coef} {gs gt : Turn} (en : nr ≡ nr') (eg : gor ≡ gor') (ek : kr ≡ kr')
    (e1 : b1 ≡ (w.gos && w.got)) (e2 : b2 ≡ (w.got && gor)) (e3 : b3 ≡ (gor && w.gos)) (es : gs ≡ round g) (et : gt ≡ round gs)
    (f1 : (gos && got) ≡ go1) (f2 : (got && gor') ≡ go2) (f3 : (gor' && gos) ≡ go3)
    (x m x1 m1 x2 m2 x3 m3 : List Float)
    (one : StoredBy v g (w.q + i) (w.bs + i) (w.bt + i) b1 w.ks w.kt x m x1 m1)
    (two : StoredBy v gs (w.q + i) (w.bt + i) (w.q + nr) b2 w.kt kr x1 m1 x2 m2)
    (three : StoredBy v gt (w.q + i) (w.q + nr) (w.bs + i) b3 kr w.ks x2 m2 x3 m3) where
  at_q : w.q + i ≡ row_at g s t + i
  at_q = ap (λ (y : Shared). y.q + i) known.is

  at_s : w.bs + i ≡ row_at g bs t + i
  at_s = ap (λ (y : Shared). y.bs + i) known.is

  at_t : w.bt + i ≡ row_at g s bt + i
  at_t = ap (λ (y : Shared). y.bt + i) known.is

  at_r : w.q + nr ≡ row_at g s t + nr'
  at_r = ap (λ (y : Shared). y.q + nr) known.is ∙ ap (λ (y : ℕ). row_at g s t + y) en

  at_ks : w.ks ≡ coef_at g.s tab s
  at_ks = ap (λ (y : Shared). y.ks) known.is

  at_kt : w.kt ≡ coef_at g.t tab t
  at_kt = ap (λ (y : Shared). y.kt) known.is

  go_r : b1 ≡ go1
  go_r = e1 ∙ ap (λ (y : Shared). y.gos && y.got) known.is ∙ f1

  go_s : b2 ≡ go2
  go_s = e2 ∙ ap (λ (y : Shared). y.got && gor) known.is ∙ ap (λ (y : Bool). got && y) eg ∙ f2

  go_t : b3 ≡ go3
  go_t = e3 ∙ ap (λ (y : Shared). gor && y.gos) known.is ∙ ap (λ (y : Bool). y && gos) eg ∙ f3

  fits : row_at g s t + i < g.count
  fits = omega (arith, at_q, known.own)

  pub cell_beside : {R S T : NewNumbers} (x₀ m₀ : List Float)
      → FairBy v g g.r g.s g.t R s t i (row_at g bs t + i) (row_at g s bt + i) go1 (coef_at g.s tab s) (coef_at g.t tab t) x₀ m₀
      → FairBy v g g.s g.t g.r S s t i (row_at g s bt + i) (row_at g s t + nr') go2 (coef_at g.t tab t) kr' x₀ m₀
      → FairBy v g g.t g.r g.s T s t i (row_at g s t + nr') (row_at g bs t + i) go3 kr' (coef_at g.s tab s) x₀ m₀
      → Doing g R S T x₀ m₀ s t i x m → Doing g R S T x₀ m₀ s t (i + 1) x3 m3
  cell_beside {R} {S} {T} x₀ m₀ fr fs ft =
      cell_law g laid R S T x₀ m₀ x m x1 m1 x2 m2 x3 m3 s t i fits _ _ _ _ _ _ _ _ _
      (moved_as v g g x m one refl at_q at_s at_t go_r at_ks at_kt)
      (moved_as v gs (round g) x1 m1 two es at_q at_t at_r go_s at_kt ek)
      (moved_as v gt (round (round g)) x2 m2 three (et ∙ ap round es) at_q at_r at_s go_t ek at_ks) (fr x m) (fs x1 m1) (ft x2 m2)
