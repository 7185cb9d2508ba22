use Rattle.grid.specs.Fault.{sides_fit}
use Rattle.grid.proofs.fault.sides_fit.Goals as goal

pub returns : goal.returns
unfolding sides_fit
returns c = cc
