-- A test of some number below n, a material as a record keeps it, and what a build and an added material may lean on. Assumes nothing.
use Prim.Native.Nat.{ℕ, zero, suc, ◌+◌, ◌≤◌, ◌<◌}
use native.Mathlib.Nat.{eq-or-lt_of_le, le_of_suc-le-suc, not-suc-le-zero}
use native.Mathlib.Numerals.{add-one}
use mathlib.Core.Path.{◌≡◌, refl, ap, ◌∙◌}
use mathlib.Core.Logic.{⊎_elim}
use native.Mathlib.Omega.{arith}
use mathlib.Core.Bool.{Bool, true, false, cond, ◌&&◌, ◌||◌}
use mathlib.Core.List.{List, [], ◌∷◌}
use lib.Dec.{leb, ltb}
use lib.ListN.{length, get_or}
use lib.Ieee.{Float}
use borrow.Author.Tests.{lt-ltb, ltb-true}
use Rattle.root.specs.declared.vacuum.Vacuum.{Vacuum}
use Rattle.root.specs.Constants.{vacuum_of}
use Rattle.dispersion.specs.declared.Pole.{Pole}
use Rattle.dispersion.specs.declared.DispersiveMaterial.{DispersiveMaterial}
use Rattle.dispersion.specs.Ade.{bad_pole}
use Rattle.grid.specs.declared.Record.{Record}
use Rattle.grid.specs.Limits.{max_materials}
use Rattle.grid.specs.Vacuum.{eps_of}
use Rattle.grid.specs.Fault.{first, material_steps, fault_of}
use Rattle.grid.specs.Canon.{keep_first}
use Rattle.grid.proofs.Tests.{first_none, or_none}
use Rattle.grid.proofs.Settled.{lent_none}
use Rattle.materials.specs.Materials.{any_below, poles_fault, full, too_many_poles, add_fault}

pub any_none : (f : ℕ → Bool) (n : ℕ) → any_below f n ≡ false → f n ≡ false → any_below f (n + 1) ≡ false
unfolding any_below
any_none f n p q = rw (add-one n, p, q)

or_true : (b : Bool) → (b || true) ≡ true
or_true true = refl
or_true false = refl

pub any_some : (f : ℕ → Bool) (i n : ℕ) → i < n → f i ≡ true → any_below f n ≡ true
unfolding any_below
any_some f i zero l q = absurd (not-suc-le-zero l)
any_some f i (suc n) l q = ⊎_elim (λ e. last e) (λ b. rw (any_some f i n b q)) (eq-or-lt_of_le (le_of_suc-le-suc l))
  where
    last : i ≡ n → (any_below f n || f n) ≡ true
    last e = rw (← e, q) (or_true (any_below f i))

pub build_none : (r : Record) (n : ℕ) → poles_fault r n ≡ 0 → r.material_count ≤ 16
unfolding poles_fault
build_none r n e = (lent_none r _ e).0.materials

-- ---- a material of four pole places as a record keeps it, and what adding one may lean on
pub kept_four : (n : ℕ) (d x : Pole) (l : List Pole) → length l ≡ 4 →
    (cond (ltb 0 n) (get_or l 0 x) d ∷ cond (ltb 1 n) (get_or l 1 x) d ∷ cond (ltb 2 n) (get_or l 2 x) d ∷ cond (ltb 3 n) (get_or l 3 x) d ∷ []) ≡ keep_first n d l
unfolding keep_first
kept_four zero d x (p ∷ q ∷ r ∷ s ∷ []) e = refl
kept_four (suc zero) d x (p ∷ q ∷ r ∷ s ∷ []) e = refl
kept_four (suc (suc zero)) d x (p ∷ q ∷ r ∷ s ∷ []) e = refl
kept_four (suc (suc (suc zero))) d x (p ∷ q ∷ r ∷ s ∷ []) e = refl
kept_four (suc (suc (suc (suc n)))) d x (p ∷ q ∷ r ∷ s ∷ []) e =
    let m = suc (suc (suc (suc n))) in
    rw (lt-ltb 0 m (omega arith), lt-ltb 1 m (omega arith), lt-ltb 2 m (omega arith), lt-ltb 3 m (omega arith)) refl
kept_four n d x [] e = absurd (let z : ⊥ = omega arith in z)
kept_four n d x (p ∷ []) e = absurd (let z : ⊥ = omega arith in z)
kept_four n d x (p ∷ q ∷ []) e = absurd (let z : ⊥ = omega arith in z)
kept_four n d x (p ∷ q ∷ r ∷ []) e = absurd (let z : ⊥ = omega arith in z)
kept_four n d x (p ∷ q ∷ r ∷ s ∷ t ∷ l) e = absurd (let z : ⊥ = omega arith in z)

-- the tests of an accepted adding
pub record Addable (r : Record) (m : DispersiveMaterial) : Type 0 where
  pub fine : fault_of r ≡ 0
  pub few : leb m.pole_count r.pole_slots ≡ true
  pub steps : material_steps (eps_of r) r.spacings.dt m ≡ true
  pub free : r.material_count < 16

pub add_none : (r : Record) (m : DispersiveMaterial) → add_fault r m ≡ 0 → Addable r m
unfolding add_fault
add_none r m e =
    let h = or_none (fault_of r) _ e in
    let t = first_none (leb m.pole_count r.pole_slots) 5 _ h.1 in
    let u = first_none (material_steps (eps_of r) r.spacings.dt m) 18 _ t.1 in
    record { fine = h.0; few = t.0; steps = u.0; free = ltb-true r.material_count 16 (first_none (ltb r.material_count 16) 4 0 u.1).0 }
