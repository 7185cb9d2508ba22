use Rattle.tfsf.specs.Corrections.{ez_upper}
use Rattle.corrections.proofs.Faced.{face_same}
use Rattle.corrections.proofs.faces.ez_upper.Goals as goal

pub returns : goal.returns
unfolding ez_upper
returns c = face_same c.side_faces.ensures c.x_plane.ensures
