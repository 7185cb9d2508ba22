use mathlib.Core.Path.{refl}
use Rattle.grid.specs.Fault.{corners_fit}
use Rattle.grid.proofs.fault.corners_fit.Goals as goal

pub returns : goal.returns
unfolding corners_fit
returns c = refl
