use mathlib.Core.Path.{refl}
use Rattle.ade.specs.Polarization.{polarized}
use Rattle.ade.proofs.polarized_of.Goals as goal

pub returns : goal.returns
unfolding polarized
returns c = refl
