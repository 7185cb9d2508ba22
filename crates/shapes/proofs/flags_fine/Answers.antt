use Rattle.grid.specs.Fault.{all_below}
use Rattle.heads.specs.Numbers.{flags_fine}
use mathlib.Core.Path.{refl}
use Rattle.shapes.proofs.flags_fine.Goals as goal

pub returns : goal.returns
unfolding flags_fine all_below
returns c = refl
