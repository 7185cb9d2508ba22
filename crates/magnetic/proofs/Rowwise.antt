-- A row of all three components by its spot. Assumes nothing.
use mathlib.Core.Path.{◌≡◌, ◌∙◌, ap, subst}
use mathlib.Core.List.{List}
use Prim.Native.Nat.{ℕ, ◌+◌, ◌<◌, zero-le}
use native.Mathlib.Nat.{add_assoc}
use lib.ListN.{get_or}
use lib.Ieee.{Float, nan}
use Rattle.fdtd.specs.declared.Axis.{Axis}
use Rattle.fdtd.specs.declared.turns.Turn.{Turn}
use Rattle.fdtd.specs.declared.turns.Spot.{Spot}
use Rattle.fdtd.specs.Axes.{next_of}
use Rattle.fdtd.specs.Yee.{factor, moves_h}
use Rattle.fdtd.specs.Inner.Span.{Span}
use Rattle.fdtd.specs.Inner.Turns.{row_at, spot_of, Laid, on_r, on_s, on_t}
use Rattle.fdtd.proofs.Spans.{first_at}
use Rattle.fdtd.proofs.Components.{curl_own, b_own, c_own}
use Rattle.fdtd.proofs.Lines.{Right, line_law}
use Rattle.magnetic.specs.Inner.Row.{field_h, first_h, second_h, Moved}
use Rattle.magnetic.specs.Inner.Swept.{Carried, made_of, up_r, up_s, up_t}

-- a cell's new number hangs on the stores by its own numbers alone
pub h_own : (A B C : Axis) (count : ℕ) (e tab m m₀ : List Float) (q i onB onC upB up_c : ℕ) → get_or m (A.mem + (q + i)) nan ≡ get_or m₀ (A.mem + (q + i)) nan
    → get_or m (A.mem + count + (q + i)) nan ≡ get_or m₀ (A.mem + count + (q + i)) nan → (h h₀ : List Float) (f f₀ : Float) → f ≡ f₀
    → get_or h (A.at + (q + i)) nan ≡ get_or h₀ (A.at + (q + i)) nan
    → field_h A B C count e tab m (q + i) onB onC upB up_c f h ≡ field_h A B C count e tab m₀ (q + i) onB onC upB up_c f₀ h₀
unfolding field_h
h_own A B C count e tab m m₀ q i onB onC upB up_c b c h h₀ f f₀ ef a = rw (ef, a, curl_own A B C count e tab m q i onB onC (q + i) upB (q + i) up_c m₀ b c)

module _ (mu0 : Float) (g : Turn) (e media tab h₀ m₀ h m fac : List Float) (s t : ℕ) (A B C : Axis) (onB onC upB up_c : (s t i : ℕ) → ℕ)
    (facs : (i : ℕ) → i < g.r.n → get_or fac i nan ≡ factor g.dt mu0 (get_or media (g.count + (row_at g s t + i)) nan)) where
  pub row_right : Right g A (made_of mu0 g A B C onB onC upB up_c e media tab h₀ m₀) s t
      (λ i. field_h A B C g.count e tab m (row_at g s t + i) (onB s t i) (onC s t i) (upB s t i) (up_c s t i) (get_or fac i nan) h)
      (λ i. first_h A B C g.count e tab m (row_at g s t + i) (onB s t i) (onC s t i) (upB s t i) (up_c s t i))
      (λ i. second_h A B C g.count e tab m (row_at g s t + i) (onB s t i) (onC s t i) (upB s t i) (up_c s t i)) h₀ m₀ h m
  row_right i l a b c =
      let q : ℕ = row_at g s t in (
        h_own A B C g.count e tab m m₀ q i (onB s t i) (onC s t i) (upB s t i) (up_c s t i) b c h h₀ _ _ (facs i l) a,
        b_own A B C g.count e tab m q i (onB s t i) (onC s t i) (q + i) (upB s t i) (q + i) (up_c s t i) m₀ b c (moves_h B C (onB s t i) (onC s t i)),
        c_own A B C g.count e tab m q i (onB s t i) (onC s t i) (q + i) (upB s t i) (q + i) (up_c s t i) m₀ b c (moves_h B C (onB s t i) (onC s t i)),
      )

module _ (mu0 : Float) (g : Turn) (laid : Laid g) (e media tab h m h1 m1 h2 m2 h3 m3 old fac : List Float) (s t : ℕ) (hs : s < g.s.n) (ht : t < g.t.n)
    (fs : Span (λ i. factor g.dt mu0 (get_or media (g.count + row_at g s t + i) nan)) old 0 0 g.r.n fac)
    (one : Moved g.r g.s g.t g.count e tab m fac h (row_at g s t) g.r.n (λ i. on_s s t i) (λ i. on_t s t i) (λ i. up_s g s t i) (λ i. up_t g s t i) h1 m1)
    (two : Moved g.s g.t g.r g.count e tab m1 fac h1 (row_at g s t) g.r.n (λ i. on_t s t i) (λ i. on_r s t i) (λ i. up_t g s t i) (λ i. up_r g s t i) h2 m2)
    (three : Moved g.t g.r g.s g.count e tab m2 fac h2 (row_at g s t) g.r.n (λ i. on_r s t i) (λ i. on_s s t i) (λ i. up_r g s t i) (λ i. up_s g s t i) h3 m3) where
  facs : (i : ℕ) → i < g.r.n → get_or fac i nan ≡ factor g.dt mu0 (get_or media (g.count + (row_at g s t + i)) nan)
  facs i l = first_at _ _ _ fs zero-le l ∙ ap (λ (x : ℕ). factor g.dt mu0 (get_or media x nan)) (add_assoc g.count (row_at g s t) i)

  pub line_row : Carried mu0 g e media tab s t h m h3 m3
  line_row h₀ m₀ w =
      line_law g laid _ _ _ h₀ m₀ h m h1 m1 h2 m2 h3 m3 s t hs ht _ _ _ _ _ _ _ _ _ one two three
      (row_right mu0 g e media tab h₀ m₀ h m fac s t g.r g.s g.t on_s on_t (up_s g) (up_t g) facs)
      (row_right mu0 g e media tab h₀ m₀ h1 m1 fac s t g.s g.t g.r on_t on_r (up_t g) (up_r g) facs)
      (row_right mu0 g e media tab h₀ m₀ h2 m2 fac s t g.t g.r g.s on_r on_s (up_r g) (up_s g) facs)
      w

pub spot_next : (g : Turn) (s t : ℕ) {bs bt us ut : ℕ} {p : Spot} → bs ≡ us → bt ≡ ut → p ≡ spot_of g s t bs bt → p ≡ spot_of g s t us ut
spot_next g s t eb et is = is ∙ rw (eb, et)

-- the same by the row's spot
module _ (mu0 : Float) (g : Turn) (laid : Laid g) (e media tab h m h1 m1 h2 m2 h3 m3 old fac : List Float) (s t : ℕ) (hs : s < g.s.n) (ht : t < g.t.n) (p : Spot)
    (is : p ≡ spot_of g s t (next_of s g.s.n) (next_of t g.t.n))
    (fs : Span (λ i. factor g.dt mu0 (get_or media (g.count + p.q + i) nan)) old 0 0 g.r.n fac)
    (one : Moved g.r g.s g.t g.count e tab m fac h p.q g.r.n (λ i. p.s) (λ i. p.t) (λ i. p.bs + i) (λ i. p.bt + i) h1 m1)
    (two : Moved g.s g.t g.r g.count e tab m1 fac h1 p.q g.r.n (λ i. p.t) (λ i. i) (λ i. p.bt + i) (λ i. p.q + next_of i g.r.n) h2 m2)
    (three : Moved g.t g.r g.s g.count e tab m2 fac h2 p.q g.r.n (λ i. i) (λ i. p.s) (λ i. p.q + next_of i g.r.n) (λ i. p.bs + i) h3 m3) where
  pub line_spot : Carried mu0 g e media tab s t h m h3 m3
  line_spot =
      line_row mu0 g laid e media tab h m h1 m1 h2 m2 h3 m3 old fac s t hs ht
      (subst (λ (x : Spot). Span (λ i. factor g.dt mu0 (get_or media (g.count + x.q + i) nan)) old 0 0 g.r.n fac) is fs)
      (subst (λ (x : Spot). Moved g.r g.s g.t g.count e tab m fac h x.q g.r.n (λ i. x.s) (λ i. x.t) (λ i. x.bs + i) (λ i. x.bt + i) h1 m1) is one)
      (subst (λ (x : Spot). Moved g.s g.t g.r g.count e tab m1 fac h1 x.q g.r.n (λ i. x.t) (λ i. i) (λ i. x.bt + i) (λ i. x.q + next_of i g.r.n) h2 m2) is two)
      (subst (λ (x : Spot). Moved g.t g.r g.s g.count e tab m2 fac h2 x.q g.r.n (λ i. i) (λ i. x.s) (λ i. x.q + next_of i g.r.n) (λ i. x.bs + i) h3 m3) is three)
