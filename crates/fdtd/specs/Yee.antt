-- One cell's new electric and magnetic number, once for all three axes (Yee 1966, with the layer of Roden and Gedney 2000; fdtd.rs). The component along
-- the axis A is moved on by the curl of the other field F, ∂F_C/∂B - ∂F_B/∂C, where B and C are the next two axes round: for A = x, ∂F_z/∂y - ∂F_y/∂z.
-- The six components in the papers' letters stand, proved, in Letters.antt. Definitions only.
use Rattle.std.specs.Prelude.{ℕ, ◌+◌, Bool, true, false, cond, not, ◌&&◌, ◌||◌, List, get_or, Float}
use Rattle.std.specs.Float.{nan}
use Rattle.std.specs.Float.Ieee.{eq}
use Rattle.root.specs.Rounded.{◌⊕◌, ◌⊖◌, ◌⊗◌, ◌⊘◌, zero_f, one_f, two_f}
use Rattle.cpml.specs.Memory.{advanced}
use Rattle.fdtd.specs.declared.Axis.{Axis}
use Rattle.fdtd.specs.declared.Coef.{Coef}
use Rattle.fdtd.specs.Axes.{has_next, walled}

-- ---- a derivative
-- Yee's difference
abbrev pub slope : (d lo hi : Float) → Float
slope d lo hi = (hi ⊖ lo) ⊘ d

-- the derivative along w of a field's component along v, from the cell lo to the cell hi
abbrev pub derivative : (w v : Axis) → (field : List Float) → (lo hi : ℕ) → Float
derivative w v f lo hi = slope w.d (get_or f (v.at + lo) nan) (get_or f (v.at + hi) nan)

-- the layer's 1/κ, b and c at the place p of an axis
abbrev pub coef_at : Axis → (tables : List Float) → ℕ → Coef
coef_at w tab p = record { kinv = get_or tab (w.tab + p) nan; b = get_or tab (w.tab + w.n + p) nan; c = get_or tab (w.tab + w.n + w.n + p) nan }

-- one of a curl's two terms: a derivative, whether the layer is active along its axis, the layer's numbers there, and the derivative's memory ψ
-- before the half step
pub record Term : Type 0 where
  pub on : Bool
  pub coef : Coef
  pub psi : Float
  pub deriv : Float

abbrev pub term : (on : Bool) → Coef → (psi deriv : Float) → Term
term on k psi ∂ = record { on = on; coef = k; psi = psi; deriv = ∂ }

-- ---- the memories
-- ψ after a step: b ψ + c ∂, or ψ where c is 0
abbrev pub mem_next : Coef → (psi deriv : Float) → Float
mem_next k psi ∂ = (advanced k.b k.c psi ∂).memory

-- a memory is advanced if the component that it belongs to is updated, the layer is active along its derivative's axis, and c is neither 0.0 nor -0.0
-- (`advanced` tests c alike)
abbrev pub is_advanced : (moves : Bool) → Term → Bool
is_advanced moves t = moves && t.on && not (eq t.coef.c zero_f)

unfoldable pub memory_after : (moves : Bool) → Term → Float
memory_after moves t = cond (is_advanced moves t) (mem_next t.coef t.psi t.deriv) t.psi

-- ---- the curl
-- what the memory adds: the new ψ, or +0.0 where c is 0; the stretch (1 - 1/κ) ∂ joins in either case
abbrev pub psi_added : Coef → (psi deriv : Float) → Float
psi_added k psi ∂ = (advanced k.b k.c psi ∂).answer

-- In the layer ∂ becomes (1/κ) ∂ + ψ. As the Rust has it ψ is added to the curl and (1 - 1/κ) ∂ taken away; of the second term, which the curl subtracts, the other
-- way round. For Hx: (∂Ez/∂y - ∂Ey/∂z) + ψ_xy - (1 - 1/κ_y) ∂Ez/∂y, and then - ψ_xz + (1 - 1/κ_z) ∂Ey/∂z
abbrev pub joins : (second : Bool) → (curl psi stretch : Float) → Float
joins second curl psi stretch = cond second (curl ⊖ psi ⊕ stretch) (curl ⊕ psi ⊖ stretch)

abbrev pub layered : (second : Bool) → Coef → (psi deriv curl : Float) → Float
layered second k psi ∂ curl = joins second curl (psi_added k psi ∂) ((one_f ⊖ k.kinv) ⊗ ∂)

abbrev pub in_layer : (second : Bool) → Term → (curl : Float) → Float
in_layer second t curl = cond t.on (layered second t.coef t.psi t.deriv curl) curl

-- ∂F_C/∂B - ∂F_B/∂C, then what the layer along B does to it, then what that along C does
unfoldable pub curl : (first second : Term) → Float
curl u v = in_layer true v (in_layer false u (u.deriv ⊖ v.deriv))

-- ---- H(n+1/2) = H(n-1/2) - dt/μ curl E
abbrev pub factor : (dt mu0 muR : Float) → Float
factor dt mu0 muR = dt ⊘ (mu0 ⊗ muR)

-- an H number is updated if its cell, at the places pB and pC, has a next one along B and along C; else it stays
abbrev pub moves_h : (B C : Axis) → (pB pC : ℕ) → Bool
moves_h B C pB pC = has_next B pB && has_next C pC

unfoldable pub updated_h : (moves : Bool) → (factor curl h : Float) → Float
updated_h moves factor curl h = cond moves (h ⊖ factor ⊗ curl) h

-- ---- ε (E(n+1) - E(n))/dt = curl H - ΔP/dt - σ (E(n+1) + E(n))/2
-- the Rust's ca and cb, not the Ca and Cb of the books: those divide by cb
abbrev pub ca : (eps0 dt eps_r sigma : Float) → Float
ca eps0 dt eps_r sigma = eps0 ⊗ eps_r ⊘ dt ⊖ sigma ⊘ two_f

abbrev pub cb : (eps0 dt eps_r sigma : Float) → Float
cb eps0 dt eps_r sigma = eps0 ⊗ eps_r ⊘ dt ⊕ sigma ⊘ two_f

-- an E number is updated if its cell lies on no wall of B and on none of C; on one of these, where it is tangential, the half step puts +0.0
abbrev pub moves_e : (B C : Axis) → (pB pC : ℕ) → Bool
moves_e B C pB pC = not (walled B pB || walled C pC)

unfoldable pub updated_e : (moves : Bool) → (ca cb dt dp curl e : Float) → Float
updated_e moves ca cb dt dp curl e = cond moves ((ca ⊗ e ⊕ curl ⊖ dp ⊘ dt) ⊘ cb) zero_f
