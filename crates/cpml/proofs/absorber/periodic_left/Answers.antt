use Rattle.cpml.specs.Absorber.{periodic_left}
use mathlib.Core.Path.{refl}
use Rattle.cpml.proofs.absorber.periodic_left.Goals as goal

pub returns : goal.returns
unfolding periodic_left
returns c = refl
