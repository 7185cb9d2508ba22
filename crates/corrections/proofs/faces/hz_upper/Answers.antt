use Rattle.tfsf.specs.Corrections.{hz_upper}
use Rattle.corrections.proofs.Faced.{face_same}
use Rattle.corrections.proofs.faces.hz_upper.Goals as goal

pub returns : goal.returns
unfolding hz_upper
returns c = face_same c.side_faces.ensures c.y_plane.ensures
