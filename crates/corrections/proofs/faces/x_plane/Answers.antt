use mathlib.Core.Path.{ap, ◌∙◌}
use mathlib.Core.Bool.{Bool}
use Prim.Native.Nat.{ℕ, ◌+◌}
use Rattle.cells.specs.declared.IndexBox.{IndexBox}
use Rattle.tfsf.specs.Corrections.{half_end, x_plane}
use Rattle.corrections.proofs.faces.x_plane.Goals as goal

pub returns : goal.returns
unfolding x_plane
returns c =
    let a = c.args in
    let g = a.g in
    let box : ℕ → IndexBox = λ i. record { i0 = a.i; i1 = a.i + 1; j0 = g.j0; j1 = g.j1 + 1; k0 = g.k0; k1 = i } in
    ap box
    (c.half_end.ensures ∙ ap (λ (b : Bool). half_end b g.k1) c.upper_face.ensures)
