use mathlib.Core.Path.{refl}
use Rattle.grid.specs.Fault.{layer_fits}
use Rattle.grid.proofs.fault.layer_fits.Goals as goal

pub returns : goal.returns
unfolding layer_fits
returns c = refl
