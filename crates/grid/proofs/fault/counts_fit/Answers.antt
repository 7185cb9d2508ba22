use mathlib.Core.Path.{refl}
use Rattle.grid.specs.Fault.{counts_fit}
use Rattle.grid.proofs.fault.counts_fit.Goals as goal

pub returns : goal.returns
unfolding counts_fit
returns c = refl
