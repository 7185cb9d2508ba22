use mathlib.Core.Path.{ap, ◌∙◌}
use mathlib.Core.Bool.{Bool, ◌&&◌}
use lib.Dec.{leb}
use Rattle.tfsf.specs.Corrections.{y_plane, hz_lower}
use Rattle.corrections.proofs.Faced.{face_same}
use Rattle.corrections.proofs.faces.hz_lower.Goals as goal

pub returns : goal.returns
unfolding hz_lower
returns c =
    let a = c.args in
    face_same (ap (λ (b : Bool). b && leb 1 a.g.j0) c.side_faces.ensures)
    (c.y_plane.ensures ∙ ap (y_plane a.g) c.index_before.ensures)
