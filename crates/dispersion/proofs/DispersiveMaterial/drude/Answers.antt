use Rattle.dispersion.specs.Material.{one_pole}
use Rattle.dispersion.proofs.DispersiveMaterial.drude.Goals as goal

pub returns : goal.returns
unfolding one_pole
returns c = cc
