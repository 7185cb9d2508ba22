use Rattle.tfsf.specs.Corrections.{ez_lower}
use Rattle.corrections.proofs.Faced.{face_same}
use Rattle.corrections.proofs.faces.ez_lower.Goals as goal

pub returns : goal.returns
unfolding ez_lower
returns c = face_same c.side_faces.ensures c.x_plane.ensures
