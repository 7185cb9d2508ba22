use Rattle.tfsf.specs.Corrections.{ex_upper}
use Rattle.corrections.proofs.Faced.{face_same}
use Rattle.corrections.proofs.faces.ex_upper.Goals as goal

pub returns : goal.returns
unfolding ex_upper
returns c = face_same c.upper_face.ensures c.z_plane.ensures
