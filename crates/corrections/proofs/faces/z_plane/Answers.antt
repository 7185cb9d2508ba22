use mathlib.Core.Path.{ap, ◌∙◌}
use mathlib.Core.Bool.{Bool}
use Prim.Native.Nat.{ℕ, ◌+◌}
use Rattle.cells.specs.declared.IndexBox.{IndexBox}
use Rattle.tfsf.specs.Corrections.{half_end, z_plane}
use Rattle.corrections.proofs.faces.z_plane.Goals as goal

pub returns : goal.returns
unfolding z_plane
returns c =
    let a = c.args in
    let g = a.g in
    let box : ℕ → IndexBox = λ i. record { i0 = g.i0; i1 = i; j0 = g.j0; j1 = g.j1 + 1; k0 = a.k; k1 = a.k + 1 } in
    ap box
    (c.half_end.ensures ∙ ap (λ (b : Bool). half_end b g.i1) c.side_faces.ensures)
