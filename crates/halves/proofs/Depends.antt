-- What the parts of a step that a study may lack read for one number of the cell (i, j, k), as tfsf/proofs/Depends.antt and ade/proofs/Depends.antt have it of the wave's and the
-- polarizations' own. Assumes nothing.
use Prim.Native.Nat.{ℕ, ◌+◌, ◌*◌, ◌%◌, ◌≤◌, ◌<◌}
use mathlib.Core.Path.{◌≡◌, refl, sym, ◌∙◌}
use mathlib.Core.Bool.{Bool, true, false, cond}
use mathlib.Core.List.{List}
use lib.Dec.{eqb}
use lib.ListN.{get_or}
use lib.Ieee.{Float}
use Rattle.grid.specs.declared.Record.{Record}
use Rattle.grid.specs.Fault.{is_absent, pole_count}
use Rattle.grid.specs.Stores.{number_at, cells}
use Rattle.ade.specs.Polarization.{poles_after}
use Rattle.ade.proofs.Depends.{number_after, number_same}
use Rattle.tfsf.specs.Corrections.{cell_number}
use Rattle.tfsf.proofs.Depends.{correct_h_same, correct_e_same}
use Rattle.halves.specs.Parts.{corrected_h, corrected_e, poles_stepped}

-- ---- the wave's
module _ (r : Record) (i j k : ℕ) (x : i < r.nx) (y : j < r.ny) (z : k < r.nz) (c : ℕ) (l : c < 3) where
  abbrev Here : (s t : List Float) → Type 0
  Here s t = cell_number r s c i j k ≡ cell_number r t c i j k

  either : (b : Bool) (s s' t t' : List Float) → Here s s' → Here t t' → Here (cond b s t) (cond b s' t')
  either true s s' t t' p q = p
  either false s s' t t' p q = q

  pub corrected_h_lem : (mu0 : Float) (media media' line s t : List Float) → cell_number r media 1 i j k ≡ cell_number r media' 1 i j k →
      Here s t → Here (corrected_h mu0 r media line s) (corrected_h mu0 r media' line t)
  unfolding corrected_h
  corrected_h_lem mu0 media media' line s t m e = either (is_absent r.region.kind) s t _ _ e (correct_h_same r i j k x y z c l mu0 media media' line m s t e)

  pub corrected_e_lem : (eps0 : Float) (media media' line s t : List Float) → cell_number r media 0 i j k ≡ cell_number r media' 0 i j k →
      cell_number r media 2 i j k ≡ cell_number r media' 2 i j k → Here s t → Here (corrected_e eps0 r media line s) (corrected_e eps0 r media' line t)
  unfolding corrected_e
  corrected_e_lem eps0 media media' line s t m n e = either (is_absent r.region.kind) s t _ _ e (correct_e_same r i j k x y z c l eps0 media media' line m n s t e)

-- ---- the polarizations': number n of the cell with the index m. Where dispersion is off the pole store is left
pub stepped_same : (eps0 : Float) (r : Record) (ids ids' : List ℕ) (e e' poles poles' : List Float) (n m : ℕ) → n < 6 * r.pole_slots + 3 → m < cells r →
    get_or ids m 0 ≡ get_or ids' m 0 → number_at e (cells r) (n % 3) m ≡ number_at e' (cells r) (n % 3) m →
    ((p : ℕ) → p < 6 * r.pole_slots + 3 → p % 3 ≡ n % 3 → number_at poles (cells r) p m ≡ number_at poles' (cells r) p m) →
    (eqb r.built_count 0 ≡ false → pole_count r (get_or ids m 0) ≤ r.pole_slots) →
    number_at (poles_stepped eps0 r ids e poles) (cells r) n m ≡ number_at (poles_stepped eps0 r ids' e' poles') (cells r) n m
unfolding poles_stepped
stepped_same eps0 r ids ids' e e' poles poles' n m l h id es ps few = go (eqb r.built_count 0) refl
  where
    go : (b : Bool) → eqb r.built_count 0 ≡ b →
        number_at (cond b poles (poles_after eps0 r ids e poles)) (cells r) n m ≡ number_at (cond b poles' (poles_after eps0 r ids' e' poles')) (cells r) n m
    go true q = ps n l refl
    go false q =
        number_after eps0 r ids e poles n m l h
        ∙ number_same eps0 r ids ids' e e' poles poles' n m l id es ps (few q)
        ∙ sym (number_after eps0 r ids' e' poles' n m l h)
