use mathlib.Core.Path.{ap, ◌∙◌}
use mathlib.Core.Bool.{Bool}
use Prim.Native.Nat.{ℕ, ◌+◌}
use Rattle.cells.specs.declared.IndexBox.{IndexBox}
use Rattle.tfsf.specs.Corrections.{half_end, y_plane}
use Rattle.corrections.proofs.faces.y_plane.Goals as goal

pub returns : goal.returns
unfolding y_plane
returns c =
    let a = c.args in
    let g = a.g in
    let box : ℕ → IndexBox = λ i. record { i0 = g.i0; i1 = i; j0 = a.j; j1 = a.j + 1; k0 = g.k0; k1 = g.k1 + 1 } in
    ap box
    (c.half_end.ensures ∙ ap (λ (b : Bool). half_end b g.i1) c.side_faces.ensures)
