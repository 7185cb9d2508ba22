use mathlib.Core.Path.{refl}
use Rattle.grid.specs.Fault.{all_below}
use Rattle.heads.specs.Numbers.{corners_fine}
use Rattle.shapes.proofs.corners_fine.Goals as goal

pub returns : goal.returns
unfolding corners_fine all_below
returns c = refl
