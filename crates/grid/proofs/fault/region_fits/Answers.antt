use Rattle.grid.specs.Fault.{region_fits}
use Rattle.grid.proofs.fault.region_fits.Goals as goal

pub returns : goal.returns
unfolding region_fits
returns c = cc
