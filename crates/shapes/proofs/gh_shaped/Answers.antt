use mathlib.Core.Path.{refl}
use Rattle.heads.specs.Numbers.{gh_shaped}
use Rattle.shapes.proofs.gh_shaped.Goals as goal

pub returns : goal.returns
unfolding gh_shaped
returns c = rw (c.corners_fine.ensures, c.flags_fine.ensures) refl
