use Rattle.tfsf.specs.Corrections.{hy_upper}
use Rattle.corrections.proofs.Faced.{face_same}
use Rattle.corrections.proofs.faces.hy_upper.Goals as goal

pub returns : goal.returns
unfolding hy_upper
returns c = face_same c.upper_face.ensures c.z_plane.ensures
