-- The parts that a study may lack, there or not. Assumes nothing.
use Prim.Native.Nat.{ℕ}
use mathlib.Core.Path.{◌≡◌, ap, ◌∙◌}
use mathlib.Core.Bool.{Bool, true, false, cond}
use mathlib.Core.List.{List}
use lib.Dec.{eqb}
use lib.Ieee.{Float}
use borrow.Author.Tests.{ne_eqb}
use Rattle.grid.specs.declared.Record.{Record}
use Rattle.grid.specs.Fault.{is_absent}
use Rattle.grid.specs.Stores.{line_length}
use Rattle.ade.specs.Polarization.{poles_after}
use Rattle.tfsf.specs.Line.{line_h, line_e}
use Rattle.tfsf.specs.Corrections.{correct_h, correct_e}
use Rattle.halves.specs.Parts.{line_mid, corrected_h, corrected_e, line_end, poles_stepped}

-- where there is a region, and where there is none
there : {A : Type 0} (absent : Bool) (x y z : A) → absent ≡ false → z ≡ x → z ≡ cond absent y x
there absent x y z p q = rw p q

none : {A : Type 0} (absent : Bool) (x y : A) → absent ≡ true → y ≡ cond absent y x
none absent x y p = rw p

module _ (mu0 : Float) (r : Record) (media aux h : List Float) where
  pub waves_h : {a' h' : List Float} → is_absent r.region.kind ≡ false → a' ≡ line_h mu0 r.spacings (line_length r.nz) aux → h' ≡ correct_h mu0 r media a' h
      → (a' ≡ line_mid mu0 r aux) × (h' ≡ corrected_h mu0 r media (line_mid mu0 r aux) h)
  unfolding line_mid corrected_h
  waves_h p a b =
      let line = there (is_absent r.region.kind) _ aux _ p a in
      (line, there (is_absent r.region.kind) _ h _ p (b ∙ ap (λ (l : List Float). correct_h mu0 r media l h) line))

  pub still_h : is_absent r.region.kind ≡ true → (aux ≡ line_mid mu0 r aux) × (h ≡ corrected_h mu0 r media (line_mid mu0 r aux) h)
  unfolding line_mid corrected_h
  still_h p = (none (is_absent r.region.kind) _ aux p, none (is_absent r.region.kind) _ h p)

module _ (eps0 c0 : Float) (r : Record) (sample : Float) (media aux e : List Float) where
  pub waves_e : {a' e' : List Float} → is_absent r.region.kind ≡ false → a' ≡ line_e eps0 c0 r.spacings (line_length r.nz) sample aux → e' ≡ correct_e eps0 r media aux e
      → (a' ≡ line_end eps0 c0 r sample aux) × (e' ≡ corrected_e eps0 r media aux e)
  unfolding line_end corrected_e
  waves_e p a b = (there (is_absent r.region.kind) _ aux _ p a, there (is_absent r.region.kind) _ e _ p b)

  pub still_e : is_absent r.region.kind ≡ true → (aux ≡ line_end eps0 c0 r sample aux) × (e ≡ corrected_e eps0 r media aux e)
  unfolding line_end corrected_e
  still_e p = (none (is_absent r.region.kind) _ aux p, none (is_absent r.region.kind) _ e p)

-- dispersion on, and off
module _ (eps0 : Float) (r : Record) (ids : List ℕ) (e poles : List Float) where
  pub moves : {p : List Float} → (r.built_count ≡ 0 → ⊥) → p ≡ poles_after eps0 r ids e poles → p ≡ poles_stepped eps0 r ids e poles
  unfolding poles_stepped
  moves h q = there (eqb r.built_count 0) _ poles _ (ne_eqb r.built_count 0 h) q

  pub rests : r.built_count ≡ 0 → poles ≡ poles_stepped eps0 r ids e poles
  unfolding poles_stepped
  rests h = rw h
