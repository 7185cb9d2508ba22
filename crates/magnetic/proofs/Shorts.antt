-- A cell of one component is what the definition has there; a cell of all three by what its row shares. Assumes nothing.
use mathlib.Core.Path.{◌≡◌, refl, ◌∙◌, ap}
use mathlib.Core.Bool.{Bool, true, false, ◌&&◌}
use mathlib.Core.List.{List}
use Prim.Native.Nat.{ℕ, ◌+◌, ◌<◌}
use lib.ListN.{get_or}
use lib.Ieee.{Float, nan}
use Rattle.root.specs.Rounded.{◌⊖◌, ◌⊗◌}
use Rattle.fdtd.specs.declared.Axis.{Axis}
use Rattle.fdtd.specs.declared.Coef.{Coef}
use Rattle.fdtd.specs.declared.single.Shared.{Shared}
use Rattle.fdtd.specs.declared.turns.Turn.{Turn}
use Rattle.fdtd.specs.Axes.{next_of, has_next}
use Rattle.fdtd.specs.Yee.{factor, coef_at, moves_h, updated_h}
use Rattle.fdtd.specs.Inner.Turns.{round, row_at, Laid, on_r, on_s, on_t}
use Rattle.fdtd.specs.Inner.Begun.{Lone, Both, StoredBy, Known}
use Rattle.fdtd.specs.Inner.Cell.{curl_by, first_by, second_by}
use Rattle.fdtd.proofs.Singles.{lone_as, lone_kept, memories_go, memories_left, by_curl, own_memories}
use Rattle.fdtd.proofs.Beside.{FairBy, cell_beside}
use Rattle.magnetic.specs.Inner.Row.{field_h}
use Rattle.magnetic.specs.Inner.Swept.{made_of, up_r, up_s, up_t}
use Rattle.magnetic.specs.Inner.Celled.{field_by, rule_h, Moving}
use Rattle.magnetic.proofs.Rowwise.{h_own}

-- it moves, or it has no neighbour
module _ (g : Turn) (e mem : List Float) (cell upB up_c : ℕ) (moves : Bool) (kb kc : Coef) (f : Float) (h : List Float) where
  go_field : moves ≡ true → {u : Float} → u ≡ curl_by g.r g.s g.t g.count e mem cell cell upB cell up_c kb kc
      → get_or h (g.r.at + cell) nan ⊖ f ⊗ u ≡ field_by g.r g.s g.t g.count e mem cell upB up_c moves kb kc f h
  unfolding field_by updated_h
  go_field go eu = rw (go, eu)

  stop_field : moves ≡ false → get_or h (g.r.at + cell) nan ≡ field_by g.r g.s g.t g.count e mem cell upB up_c moves kb kc f h
  unfolding field_by updated_h
  stop_field stop = rw stop

  pub moved_on : moves ≡ true → {u : Float} {h' mem' : List Float} → u ≡ curl_by g.r g.s g.t g.count e mem cell cell upB cell up_c kb kc
      → Lone (get_or h (g.r.at + cell) nan ⊖ f ⊗ u) h (g.r.at + cell) h'
      → Both (first_by g.r g.s g.t g.count e mem cell cell upB cell up_c kb kc true) (second_by g.r g.s g.t g.count e mem cell cell upB cell up_c kb kc true) mem (g.r.mem + cell) (g.r.mem + g.count + cell) mem'
      → StoredBy (rule_h e f) g cell upB up_c moves kb kc h mem h' mem'
  moved_on go eu l b = (lone_as l (go_field go eu), memories_go g.r g.s g.t g.count e mem cell cell upB cell up_c kb kc moves go b)

  pub stood : moves ≡ false → StoredBy (rule_h e f) g cell upB up_c moves kb kc h mem h mem
  stood stop = (lone_kept _ _ (stop_field stop), memories_left g.r g.s g.t g.count e mem cell cell upB cell up_c kb kc moves stop)

-- it is the definition's
by_field : (A B C : Axis) (count : ℕ) (e tab mem : List Float) (cell onB onC upB up_c : ℕ) (f : Float) (h : List Float)
    → field_by A B C count e mem cell upB up_c (moves_h B C onB onC) (coef_at B tab onB) (coef_at C tab onC) f h ≡ field_h A B C count e tab mem cell onB onC upB up_c f h
unfolding field_by field_h
by_field A B C count e tab mem cell onB onC upB up_c f h = rw (by_curl A B C count e mem cell cell upB cell up_c tab onB onC)

module _ (mu0 : Float) (g : Turn) (e media tab : List Float) (s t i : ℕ) where
  abbrev fac_h : Float
  fac_h = factor g.dt mu0 (get_or media (g.count + (row_at g s t + i)) nan)

  cell_fair : (h₀ m₀ : List Float) (A B C : Axis) (onB onC upB up_c : (s t i : ℕ) → ℕ)
      → FairBy (rule_h e fac_h) g A B C (made_of mu0 g A B C onB onC upB up_c e media tab h₀ m₀) s t i (upB s t i) (up_c s t i) (moves_h B C (onB s t i) (onC s t i))
      (coef_at B tab (onB s t i)) (coef_at C tab (onC s t i)) h₀ m₀
  cell_fair h₀ m₀ A B C onB onC upB up_c h m a b c =
      let q : ℕ = row_at g s t in
      let k = own_memories A B C g.count e tab m m₀ q i (onB s t i) (onC s t i) (q + i) (upB s t i) (q + i) (up_c s t i) (moves_h B C (onB s t i) (onC s t i)) b c in (
        by_field A B C g.count e tab m (q + i) (onB s t i) (onC s t i) (upB s t i) (up_c s t i) _ h
            ∙ h_own A B C g.count e tab m m₀ q i (onB s t i) (onC s t i) (upB s t i) (up_c s t i) b c h h₀ _ _ refl a,
        k.0,
        k.1,
      )

  module _ (laid : Laid g) (h m h1 m1 h2 m2 h3 m3 : List Float) (w : Shared)
      (known : Known g tab s t (next_of s g.s.n) (next_of t g.t.n) (has_next g.s s) (has_next g.t t) w) (hi : i < g.r.n)
      {nr : ℕ} {gor b1 b2 b3 : Bool} {kr : Coef} {mu f : Float} {gs gt : Turn} (en : nr ≡ next_of i g.r.n) (eg : gor ≡ has_next g.r i) (ek : kr ≡ coef_at g.r tab i)
      (em : mu ≡ get_or media (g.count + (w.q + i)) nan) (ef : f ≡ factor g.dt mu0 mu)
      (e1 : b1 ≡ (w.gos && w.got)) (e2 : b2 ≡ (w.got && gor)) (e3 : b3 ≡ (gor && w.gos)) (es : gs ≡ round g) (et : gt ≡ round gs)
      (one : StoredBy (rule_h e f) g (w.q + i) (w.bs + i) (w.bt + i) b1 w.ks w.kt h m h1 m1)
      (two : StoredBy (rule_h e f) gs (w.q + i) (w.bt + i) (w.q + nr) b2 w.kt kr h1 m1 h2 m2)
      (three : StoredBy (rule_h e f) gt (w.q + i) (w.q + nr) (w.bs + i) b3 kr w.ks h2 m2 h3 m3) where
    at_f : f ≡ fac_h
    at_f = ef ∙ ap (λ (x : Float). factor g.dt mu0 x) (em ∙ ap (λ (x : Shared). get_or media (g.count + (x.q + i)) nan) known.is)

    pub cell_shared : Moving mu0 g e media tab s t i h m h3 m3
    cell_shared h₀ m₀ =
        cell_beside (rule_h e fac_h) g laid tab s t _ _ i w known hi en eg ek e1 e2 e3 es et refl refl refl h m h1 m1 h2 m2 h3 m3
        (rw (← at_f) one) (rw (← at_f) two) (rw (← at_f) three) h₀ m₀
        (cell_fair h₀ m₀ g.r g.s g.t on_s on_t (up_s g) (up_t g))
        (cell_fair h₀ m₀ g.s g.t g.r on_t on_r (up_t g) (up_r g))
        (cell_fair h₀ m₀ g.t g.r g.s on_r on_s (up_r g) (up_s g))
