-- What the wave's corrections read for one number of the cell (i, j, k): the number itself, the cell's own media, the line. Two studies with one line that agree in that agree in the
-- number corrected. Assumes nothing.
use Prim.Native.Nat.{ℕ, ◌+◌, ◌<◌}
use mathlib.Core.Path.{◌≡◌, refl, sym, ap, ◌∙◌}
use mathlib.Core.Bool.{Bool, true, false, cond, ◌&&◌}
use mathlib.Core.List.{List}
use lib.Dec.{eqb}
use lib.Ieee.{Float, nan}
use Rattle.root.specs.Rounded.{◌⊕◌}
use Rattle.cells.specs.Box.{in_box}
use Rattle.cells.specs.Cells.{components}
use Rattle.cells.specs.Reading.{components_at}
use Rattle.grid.specs.declared.Record.{Record}
use Rattle.grid.specs.Stores.{line_length}
use Rattle.tfsf.specs.declared.faces.Face.{Face}
use Rattle.tfsf.specs.Line.{ex_at, hy_at}
use Rattle.tfsf.specs.Corrections.{added_h, added_e, cell_number, correct_face, face_h, face_e, correct_h, correct_e, hy_lower, hy_upper, hz_lower, hz_upper, ex_lower, ex_upper, ez_lower, ez_upper}

module _ (r : Record) (i j k : ℕ) (x : i < r.nx) (y : j < r.ny) (z : k < r.nz) (c : ℕ) (l : c < 3) where
  abbrev Here : (s t : List Float) → Type 0
  Here s t = cell_number r s c i j k ≡ cell_number r t c i j k

  -- number c after one face
  face_at : (f : Face) (added : ℕ → ℕ → ℕ → Float) (s : List Float) →
      cell_number r (correct_face r f added s) c i j k ≡
      cond f.there (cond (eqb c f.component && in_box f.b i j k) (cell_number r s c i j k ⊕ added i j k) (cell_number r s c i j k)) (cell_number r s c i j k)
  unfolding correct_face
  face_at f added s = go f.there
    where
      corrected : List Float
      corrected = components 3 r.nx r.ny r.nz (λ c i j k. cond (eqb c f.component && in_box f.b i j k) (cell_number r s c i j k ⊕ added i j k) (cell_number r s c i j k))

      go : (b : Bool) → cell_number r (cond b corrected s) c i j k ≡
          cond b (cond (eqb c f.component && in_box f.b i j k) (cell_number r s c i j k ⊕ added i j k) (cell_number r s c i j k)) (cell_number r s c i j k)
      go true = components_at nan 3 r.nx r.ny r.nz _ c i j k l x y z
      go false = refl

  picked : (b d : Bool) {u u' v v' : Float} → u ≡ u' → v ≡ v' → cond b (cond d (u ⊕ v) u) u ≡ cond b (cond d (u' ⊕ v') u') u'
  picked b d p q = rw (p, q)

  pub face_same : (f : Face) (added added' : ℕ → ℕ → ℕ → Float) (s t : List Float) → added i j k ≡ added' i j k → Here s t → Here (correct_face r f added s) (correct_face r f added' t)
  face_same f added added' s t a e =
      face_at f added s ∙ picked f.there (eqb c f.component && in_box f.b i j k) e a ∙ sym (face_at f added' t)

  module _ (mu0 : Float) (media media' line : List Float) (m : cell_number r media 1 i j k ≡ cell_number r media' 1 i j k) where
    face_h_lem : (f : Face) (s t : List Float) → Here s t → Here (face_h mu0 r media line f s) (face_h mu0 r media' line f t)
    face_h_lem f s t = face_same f _ _ s t (ap (λ (u : Float). added_h mu0 r.spacings.dt f u (ex_at line (k + f.offset))) m)

    pub correct_h_same : (s t : List Float) → Here s t → Here (correct_h mu0 r media line s) (correct_h mu0 r media' line t)
    unfolding correct_h
    correct_h_same s t e =
        let g = r.region in
        let d = r.spacings in
        face_h_lem (hz_upper g d) _ _ (face_h_lem (hz_lower g d) _ _ (face_h_lem (hy_upper g d) _ _ (face_h_lem (hy_lower g d) s t e)))

  module _ (eps0 : Float) (media media' line : List Float) (m : cell_number r media 0 i j k ≡ cell_number r media' 0 i j k) (n : cell_number r media 2 i j k ≡ cell_number r media' 2 i j k) where
    added_same : (f : Face) {u u' v v' : Float} → u ≡ u' → v ≡ v' →
        added_e eps0 r.spacings.dt f u v (hy_at (line_length r.nz) line (k + f.offset)) ≡ added_e eps0 r.spacings.dt f u' v' (hy_at (line_length r.nz) line (k + f.offset))
    added_same f p q = rw (p, q)

    face_e_lem : (f : Face) (s t : List Float) → Here s t → Here (face_e eps0 r media line f s) (face_e eps0 r media' line f t)
    face_e_lem f s t = face_same f _ _ s t (added_same f m n)

    pub correct_e_same : (s t : List Float) → Here s t → Here (correct_e eps0 r media line s) (correct_e eps0 r media' line t)
    unfolding correct_e
    correct_e_same s t e =
        let g = r.region in
        let d = r.spacings in
        face_e_lem (ez_upper g d) _ _ (face_e_lem (ez_lower g d) _ _ (face_e_lem (ex_upper g d) _ _ (face_e_lem (ex_lower g d) s t e)))
