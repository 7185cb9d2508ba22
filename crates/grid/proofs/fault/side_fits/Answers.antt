use mathlib.Core.Path.{refl}
use Rattle.grid.specs.Fault.{side_fits}
use Rattle.grid.proofs.fault.side_fits.Goals as goal

pub returns : goal.returns
unfolding side_fits
returns c = refl
