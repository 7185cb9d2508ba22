-- A cell of one component is what the definition has there; a cell of all three by what its row shares. Assumes nothing.
use mathlib.Core.Path.{◌≡◌, refl, sym, ◌∙◌, ap}
use mathlib.Core.Bool.{Bool, true, false, not, cond, ◌&&◌, ◌||◌}
use mathlib.Core.List.{List}
use Prim.Native.Nat.{ℕ, ◌+◌, ◌*◌, ◌≤◌, ◌<◌}
use lib.ListN.{length, get_or}
use lib.Ieee.{Float, nan}
use Rattle.root.specs.Rounded.{◌⊕◌, ◌⊖◌, ◌⊗◌, ◌⊘◌, zero_f}
use Rattle.fdtd.specs.declared.Axis.{Axis}
use Rattle.fdtd.specs.declared.Coef.{Coef}
use Rattle.fdtd.specs.declared.single.Shared.{Shared}
use Rattle.fdtd.specs.declared.turns.Turn.{Turn}
use Rattle.fdtd.specs.Axes.{previous_of, walled}
use Rattle.fdtd.specs.Yee.{ca, cb, coef_at, moves_e, updated_e}
use Rattle.fdtd.specs.Inner.Turns.{round, row_at, Laid, on_r, on_s, on_t}
use Rattle.fdtd.specs.Inner.Begun.{Lone, Both, StoredBy, Known}
use Rattle.fdtd.specs.Inner.Cell.{curl_by, first_by, second_by}
use Rattle.fdtd.proofs.Singles.{lone_as, memories_go, memories_left, by_curl, own_memories}
use Rattle.fdtd.proofs.Beside.{FairBy, cell_beside}
use Rattle.electric.specs.declared.row.Change.{Change}
use Rattle.update.specs.declared.Weights.{Weights}
use Rattle.electric.specs.Inner.Row.{dp_of, field_e, DpRoom}
use Rattle.electric.specs.Inner.Swept.{made_of, ca_at, cb_at, down_r, down_s, down_t}
use Rattle.electric.specs.Inner.Celled.{field_by, rule_e, Moving}
use Rattle.electric.proofs.Rowwise.{e_own}

-- dp/dt with dispersion, and without
module _ (w : Change) (poles : List Float) (i : ℕ) where
  pub term_on : {x : Float} → w.on ≡ true → x ≡ get_or poles (w.at + i) nan → x ⊘ w.dt ≡ dp_of w poles i ⊘ w.dt
  unfolding dp_of
  term_on o e = ap (λ (x : Float). x ⊘ w.dt) (e ∙ ap (λ (b : Bool). cond b (get_or poles (w.at + i) nan) zero_f) (sym o))

  pub term_off : {x : Float} → w.on ≡ false → x ≡ zero_f ⊘ w.dt → x ≡ dp_of w poles i ⊘ w.dt
  unfolding dp_of
  term_off o e = e ∙ ap (λ (b : Bool). cond b (get_or poles (w.at + i) nan) zero_f ⊘ w.dt) (sym o)

-- dp of the components along s and t
module _ {w : Change} {g : Turn} {poles : List Float} (held : DpRoom g w poles) where
  pub held_s : {gs : Turn} → gs ≡ round g → w.at + gs.r.at + gs.count ≤ length poles
  held_s e = rw e held.s

  pub held_t : {gs gt : Turn} → gs ≡ round g → gt ≡ round gs → w.at + gt.r.at + gt.count ≤ length poles
  held_t e d = rw (d, e) held.t

-- it moves, or it lies on a wall
module _ (g : Turn) (h mem : List Float) (cell downB down_c : ℕ) (moves : Bool) (kb kc : Coef) (w : Change) (poles : List Float) (a b : Float) (e : List Float) where
  abbrev new : Float
  new = field_by g.r g.s g.t g.count h mem cell downB down_c moves kb kc a b w.dt (dp_of w poles (g.r.at + cell)) e

  go_field : moves ≡ true → {u y : Float} → u ≡ curl_by g.r g.s g.t g.count h mem cell downB cell down_c cell kb kc → y ≡ dp_of w poles (g.r.at + cell) ⊘ w.dt
      → (a ⊗ get_or e (g.r.at + cell) nan ⊕ u ⊖ y) ⊘ b ≡ new
  unfolding field_by updated_e
  go_field go eu ey = rw (go, eu, ey)

  stop_field : moves ≡ false → zero_f ≡ new
  unfolding field_by updated_e
  stop_field stop = rw stop

  pub moved_on : moves ≡ true → {u y x : Float} {e' mem' : List Float} → u ≡ curl_by g.r g.s g.t g.count h mem cell downB cell down_c cell kb kc → y ≡ dp_of w poles (g.r.at + cell) ⊘ w.dt
      → x ≡ (a ⊗ get_or e (g.r.at + cell) nan ⊕ u ⊖ y) ⊘ b → Lone x e (g.r.at + cell) e'
      → Both (first_by g.r g.s g.t g.count h mem cell downB cell down_c cell kb kc true) (second_by g.r g.s g.t g.count h mem cell downB cell down_c cell kb kc true) mem (g.r.mem + cell) (g.r.mem + g.count + cell) mem'
      → StoredBy (rule_e h w poles a b) g cell downB down_c moves kb kc e mem e' mem'
  moved_on go eu ey ex l k = (lone_as l (ex ∙ go_field go eu ey), memories_go g.r g.s g.t g.count h mem cell downB cell down_c cell kb kc moves go k)

  pub walled_off : moves ≡ false → {e' : List Float} → Lone zero_f e (g.r.at + cell) e' → StoredBy (rule_e h w poles a b) g cell downB down_c moves kb kc e mem e' mem
  walled_off stop l = (lone_as l (stop_field stop), memories_left g.r g.s g.t g.count h mem cell downB cell down_c cell kb kc moves stop)

-- it is the definition's
by_field : (A B C : Axis) (count : ℕ) (h tab mem : List Float) (cell onB onC downB down_c : ℕ) (a b dt dp : Float) (e : List Float)
    → field_by A B C count h mem cell downB down_c (moves_e B C onB onC) (coef_at B tab onB) (coef_at C tab onC) a b dt dp e ≡ field_e A B C count h tab mem cell onB onC downB down_c a b dt dp e
unfolding field_by field_e
by_field A B C count h tab mem cell onB onC downB down_c a b dt dp e = rw (by_curl A B C count h mem cell downB cell down_c cell tab onB onC)

-- on neither wall
free_both : (x y : Bool) → (not x && not y) ≡ not (x || y)
free_both true y = refl
free_both false true = refl
free_both false false = refl

module _ (eps0 : Float) (w : Change) (g : Turn) (h media tab poles : List Float) (s t i : ℕ) where
  abbrev ca_e : Float
  ca_e = ca_at eps0 g media (row_at g s t + i)

  abbrev cb_e : Float
  cb_e = cb_at eps0 g media (row_at g s t + i)

  cell_fair : (e₀ m₀ : List Float) (A B C : Axis) (onB onC downB down_c : (s t i : ℕ) → ℕ)
      → FairBy (rule_e h w poles ca_e cb_e) g A B C (made_of eps0 w g A B C onB onC downB down_c h media tab poles e₀ m₀) s t i (downB s t i) (down_c s t i)
      (moves_e B C (onB s t i) (onC s t i)) (coef_at B tab (onB s t i)) (coef_at C tab (onC s t i)) e₀ m₀
  cell_fair e₀ m₀ A B C onB onC downB down_c e m a b c =
      let q : ℕ = row_at g s t in
      let k = own_memories A B C g.count h tab m m₀ q i (onB s t i) (onC s t i) (downB s t i) (q + i) (down_c s t i) (q + i) (moves_e B C (onB s t i) (onC s t i)) b c in (
        by_field A B C g.count h tab m (q + i) (onB s t i) (onC s t i) (downB s t i) (down_c s t i) _ _ _ _ e
            ∙ e_own A B C g.count h tab m m₀ q i (onB s t i) (onC s t i) (downB s t i) (down_c s t i) b c e e₀ _ _ refl refl a,
        k.0,
        k.1,
      )

  module _ (laid : Laid g) (e m e1 m1 e2 m2 e3 m3 : List Float) (v : Shared)
      (known : Known g tab s t (previous_of s g.s.n) (previous_of t g.t.n) (not (walled g.s s)) (not (walled g.t t)) v) (hi : i < g.r.n)
      {nr : ℕ} {gor b1 b2 b3 : Bool} {kr : Coef} {sigma : Float} {gs gt : Turn} (f : Weights) (en : nr ≡ previous_of i g.r.n) (eg : gor ≡ not (walled g.r i)) (ek : kr ≡ coef_at g.r tab i)
      (es : sigma ≡ get_or media (2 * g.count + (v.q + i)) nan) (ea : f.ca ≡ ca eps0 g.dt (get_or media (v.q + i) nan) sigma)
      (eb : f.cb ≡ cb eps0 g.dt (get_or media (v.q + i) nan) sigma)
      (d1 : b1 ≡ (v.gos && v.got)) (d2 : b2 ≡ (v.got && gor)) (d3 : b3 ≡ (gor && v.gos)) (ns : gs ≡ round g) (nt : gt ≡ round gs)
      (one : StoredBy (rule_e h w poles f.ca f.cb) g (v.q + i) (v.bs + i) (v.bt + i) b1 v.ks v.kt e m e1 m1)
      (two : StoredBy (rule_e h w poles f.ca f.cb) gs (v.q + i) (v.bt + i) (v.q + nr) b2 v.kt kr e1 m1 e2 m2)
      (three : StoredBy (rule_e h w poles f.ca f.cb) gt (v.q + i) (v.q + nr) (v.bs + i) b3 kr v.ks e2 m2 e3 m3) where
    at_ca : f.ca ≡ ca_e
    at_ca = ea ∙ ap (λ (x : Float). ca eps0 g.dt (get_or media (v.q + i) nan) x) es ∙ ap (λ (x : Shared). ca_at eps0 g media (x.q + i)) known.is

    at_cb : f.cb ≡ cb_e
    at_cb = eb ∙ ap (λ (x : Float). cb eps0 g.dt (get_or media (v.q + i) nan) x) es ∙ ap (λ (x : Shared). cb_at eps0 g media (x.q + i)) known.is

    as_made : (g' : Turn) (cell nB nC : ℕ) (go : Bool) (kb kc : Coef) (x m x' m' : List Float)
        → StoredBy (rule_e h w poles f.ca f.cb) g' cell nB nC go kb kc x m x' m' → StoredBy (rule_e h w poles ca_e cb_e) g' cell nB nC go kb kc x m x' m'
    as_made g' cell nB nC go kb kc x m x' m' k = rw (← at_ca, ← at_cb) k

    pub cell_shared : Moving eps0 w g h media tab poles s t i e m e3 m3
    cell_shared e₀ m₀ =
        cell_beside (rule_e h w poles ca_e cb_e) g laid tab s t _ _ i v known hi en eg ek d1 d2 d3 ns nt
        (free_both (walled g.s s) (walled g.t t)) (free_both (walled g.t t) (walled g.r i)) (free_both (walled g.r i) (walled g.s s)) e m e1 m1 e2 m2 e3 m3
        (as_made g _ _ _ _ _ _ _ _ _ _ one) (as_made gs _ _ _ _ _ _ _ _ _ _ two) (as_made gt _ _ _ _ _ _ _ _ _ _ three) e₀ m₀
        (cell_fair e₀ m₀ g.r g.s g.t on_s on_t (down_s g) (down_t g))
        (cell_fair e₀ m₀ g.s g.t g.r on_t on_r (down_t g) (down_r g))
        (cell_fair e₀ m₀ g.t g.r g.s on_r on_s (down_r g) (down_s g))
