use mathlib.Core.Path.{refl}
use Rattle.tfsf.specs.Corrections.{ex_lower}
use Rattle.corrections.proofs.Faced.{face_same}
use Rattle.corrections.proofs.faces.ex_lower.Goals as goal

pub returns : goal.returns
unfolding ex_lower
returns c = face_same refl c.z_plane.ensures
