-- A row of all three components by its spot. Assumes nothing.
use mathlib.Core.Path.{◌≡◌, ◌∙◌, ap, subst}
use mathlib.Core.List.{List}
use Prim.Native.Nat.{ℕ, ◌+◌, ◌*◌, ◌<◌, zero-le}
use native.Mathlib.Nat.{add_assoc}
use lib.ListN.{get_or}
use lib.Ieee.{Float, nan}
use Rattle.fdtd.specs.declared.Axis.{Axis}
use Rattle.fdtd.specs.declared.turns.Turn.{Turn}
use Rattle.fdtd.specs.declared.turns.Spot.{Spot}
use Rattle.fdtd.specs.Axes.{previous_of}
use Rattle.fdtd.specs.Yee.{ca, cb, moves_e}
use Rattle.fdtd.specs.Inner.Span.{Span}
use Rattle.fdtd.specs.Inner.Turns.{row_at, spot_of, Laid, on_r, on_s, on_t}
use Rattle.fdtd.proofs.Spans.{first_at}
use Rattle.fdtd.proofs.Components.{curl_own, b_own, c_own}
use Rattle.fdtd.proofs.Lines.{Right, line_law}
use Rattle.electric.specs.declared.row.Change.{Change}
use Rattle.electric.specs.declared.row.Factors.{Factors}
use Rattle.electric.specs.Inner.Row.{dp_of, field_e, first_e, second_e, Moved}
use Rattle.electric.specs.Inner.Swept.{Carried, made_of, ca_at, cb_at, down_r, down_s, down_t}

-- a cell's new number hangs on the stores by its own numbers alone
pub e_own : (A B C : Axis) (count : ℕ) (h tab m m₀ : List Float) (q i onB onC downB down_c : ℕ) → get_or m (A.mem + (q + i)) nan ≡ get_or m₀ (A.mem + (q + i)) nan
    → get_or m (A.mem + count + (q + i)) nan ≡ get_or m₀ (A.mem + count + (q + i)) nan → (e e₀ : List Float) (dt dp : Float) {a a₀ b b₀ : Float} → a ≡ a₀ → b ≡ b₀
    → get_or e (A.at + (q + i)) nan ≡ get_or e₀ (A.at + (q + i)) nan
    → field_e A B C count h tab m (q + i) onB onC downB down_c a b dt dp e ≡ field_e A B C count h tab m₀ (q + i) onB onC downB down_c a₀ b₀ dt dp e₀
unfolding field_e
e_own A B C count h tab m m₀ q i onB onC downB down_c b c e e₀ dt dp ea eb o = rw (ea, eb, o, curl_own A B C count h tab m q i onB onC downB (q + i) down_c (q + i) m₀ b c)

-- those of the cells of a row
abbrev Held : (eps0 : Float) → Turn → (media : List Float) → (f : Factors) → (s t : ℕ) → Type 0
Held eps0 g media f s t =
    (i : ℕ) → i < g.r.n → (get_or f.ca i nan ≡ ca_at eps0 g media (row_at g s t + i)) × (get_or f.cb i nan ≡ cb_at eps0 g media (row_at g s t + i))

module _ (eps0 : Float) (w : Change) (g : Turn) (h media tab poles e₀ m₀ e m : List Float) (f : Factors) (s t : ℕ) (A B C : Axis) (onB onC downB down_c : (s t i : ℕ) → ℕ)
    (facs : Held eps0 g media f s t) where
  pub row_right : Right g A (made_of eps0 w g A B C onB onC downB down_c h media tab poles e₀ m₀) s t
      (λ i. field_e A B C g.count h tab m (row_at g s t + i) (onB s t i) (onC s t i) (downB s t i) (down_c s t i)
      (get_or f.ca i nan) (get_or f.cb i nan) w.dt (dp_of w poles (A.at + (row_at g s t + i))) e)
      (λ i. first_e A B C g.count h tab m (row_at g s t + i) (onB s t i) (onC s t i) (downB s t i) (down_c s t i))
      (λ i. second_e A B C g.count h tab m (row_at g s t + i) (onB s t i) (onC s t i) (downB s t i) (down_c s t i)) e₀ m₀ e m
  row_right i l a b c =
      let q : ℕ = row_at g s t in (
        e_own A B C g.count h tab m m₀ q i (onB s t i) (onC s t i) (downB s t i) (down_c s t i) b c e e₀ _ _ (facs i l).0 (facs i l).1 a,
        b_own A B C g.count h tab m q i (onB s t i) (onC s t i) (downB s t i) (q + i) (down_c s t i) (q + i) m₀ b c (moves_e B C (onB s t i) (onC s t i)),
        c_own A B C g.count h tab m q i (onB s t i) (onC s t i) (downB s t i) (q + i) (down_c s t i) (q + i) m₀ b c (moves_e B C (onB s t i) (onC s t i)),
      )

-- ca and cb of the cells of a row that begins at q
pub record Made (eps0 : Float) (g : Turn) (media : List Float) (old : Factors) (q : ℕ) (f : Factors) : Type 0 where
  pub ca : Span (λ i. ca eps0 g.dt (get_or media (q + i) nan) (get_or media (2 * g.count + q + i) nan)) old.ca 0 0 g.r.n f.ca
  pub cb : Span (λ i. cb eps0 g.dt (get_or media (q + i) nan) (get_or media (2 * g.count + q + i) nan)) old.cb 0 0 g.r.n f.cb

module _ (eps0 : Float) (w : Change) (g : Turn) (laid : Laid g) (h media tab poles e m e1 m1 e2 m2 e3 m3 : List Float) (old f : Factors) (s t : ℕ) (hs : s < g.s.n) (ht : t < g.t.n)
    (fs : Made eps0 g media old (row_at g s t) f)
    (one : Moved g.r g.s g.t g.count h tab m f poles e w (row_at g s t) g.r.n (λ i. on_s s t i) (λ i. on_t s t i) (λ i. down_s g s t i) (λ i. down_t g s t i) e1 m1)
    (two : Moved g.s g.t g.r g.count h tab m1 f poles e1 w (row_at g s t) g.r.n (λ i. on_t s t i) (λ i. on_r s t i) (λ i. down_t g s t i) (λ i. down_r g s t i) e2 m2)
    (three : Moved g.t g.r g.s g.count h tab m2 f poles e2 w (row_at g s t) g.r.n (λ i. on_r s t i) (λ i. on_s s t i) (λ i. down_r g s t i) (λ i. down_s g s t i) e3 m3) where
  facs : Held eps0 g media f s t
  facs i l =
      let a = add_assoc (2 * g.count) (row_at g s t) i in (
        first_at _ _ _ fs.ca zero-le l ∙ ap (λ (x : ℕ). ca eps0 g.dt (get_or media (row_at g s t + i) nan) (get_or media x nan)) a,
        first_at _ _ _ fs.cb zero-le l ∙ ap (λ (x : ℕ). cb eps0 g.dt (get_or media (row_at g s t + i) nan) (get_or media x nan)) a,
      )

  pub line_row : Carried eps0 w g h media tab poles s t e m e3 m3
  line_row e₀ m₀ v =
      line_law g laid _ _ _ e₀ m₀ e m e1 m1 e2 m2 e3 m3 s t hs ht _ _ _ _ _ _ _ _ _ one two three
      (row_right eps0 w g h media tab poles e₀ m₀ e m f s t g.r g.s g.t on_s on_t (down_s g) (down_t g) facs)
      (row_right eps0 w g h media tab poles e₀ m₀ e1 m1 f s t g.s g.t g.r on_t on_r (down_t g) (down_r g) facs)
      (row_right eps0 w g h media tab poles e₀ m₀ e2 m2 f s t g.t g.r g.s on_r on_s (down_r g) (down_s g) facs)
      v

pub spot_as : (g : Turn) (s t : ℕ) {bs bt us ut : ℕ} {p : Spot} → bs ≡ us → bt ≡ ut → p ≡ spot_of g s t bs bt → p ≡ spot_of g s t us ut
spot_as g s t eb et is = is ∙ rw (eb, et)

-- the same by the row's spot
module _ (eps0 : Float) (w : Change) (g : Turn) (laid : Laid g) (h media tab poles e m e1 m1 e2 m2 e3 m3 : List Float) (old f : Factors) (s t : ℕ) (hs : s < g.s.n) (ht : t < g.t.n) (p : Spot)
    (is : p ≡ spot_of g s t (previous_of s g.s.n) (previous_of t g.t.n))
    (fs : Made eps0 g media old p.q f)
    (one : Moved g.r g.s g.t g.count h tab m f poles e w p.q g.r.n (λ i. p.s) (λ i. p.t) (λ i. p.bs + i) (λ i. p.bt + i) e1 m1)
    (two : Moved g.s g.t g.r g.count h tab m1 f poles e1 w p.q g.r.n (λ i. p.t) (λ i. i) (λ i. p.bt + i) (λ i. p.q + previous_of i g.r.n) e2 m2)
    (three : Moved g.t g.r g.s g.count h tab m2 f poles e2 w p.q g.r.n (λ i. i) (λ i. p.s) (λ i. p.q + previous_of i g.r.n) (λ i. p.bs + i) e3 m3) where
  pub line_spot : Carried eps0 w g h media tab poles s t e m e3 m3
  line_spot =
      line_row eps0 w g laid h media tab poles e m e1 m1 e2 m2 e3 m3 old f s t hs ht
      (subst (λ (x : Spot). Made eps0 g media old x.q f) is fs)
      (subst (λ (x : Spot). Moved g.r g.s g.t g.count h tab m f poles e w x.q g.r.n (λ i. x.s) (λ i. x.t) (λ i. x.bs + i) (λ i. x.bt + i) e1 m1) is one)
      (subst (λ (x : Spot). Moved g.s g.t g.r g.count h tab m1 f poles e1 w x.q g.r.n (λ i. x.t) (λ i. i) (λ i. x.bt + i) (λ i. x.q + previous_of i g.r.n) e2 m2) is two)
      (subst (λ (x : Spot). Moved g.t g.r g.s g.count h tab m2 f poles e2 w x.q g.r.n (λ i. i) (λ i. x.s) (λ i. x.q + previous_of i g.r.n) (λ i. x.bs + i) e3 m3) is three)
