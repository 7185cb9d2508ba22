use Rattle.grid.specs.Fault.{spacings_fit}
use Rattle.grid.proofs.fault.spacings_fit.Goals as goal

pub returns : goal.returns
unfolding spacings_fit
returns c = cc
