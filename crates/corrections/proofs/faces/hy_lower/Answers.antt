use mathlib.Core.Path.{refl, ap, ◌∙◌}
use Rattle.tfsf.specs.Corrections.{z_plane, hy_lower}
use Rattle.corrections.proofs.Faced.{face_same}
use Rattle.corrections.proofs.faces.hy_lower.Goals as goal

pub returns : goal.returns
unfolding hy_lower
returns c =
    let a = c.args in
    face_same refl (c.z_plane.ensures ∙ ap (z_plane a.g) c.index_before.ensures)
