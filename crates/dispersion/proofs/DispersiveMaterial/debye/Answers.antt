use Rattle.dispersion.specs.Material.{one_pole}
use Rattle.dispersion.proofs.DispersiveMaterial.debye.Goals as goal

pub returns : goal.returns
unfolding one_pole
returns c = cc
