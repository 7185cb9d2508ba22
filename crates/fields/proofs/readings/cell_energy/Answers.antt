use Rattle.fields.specs.Fields.{cell_energy}
use mathlib.Core.Path.{refl}
use Rattle.fields.proofs.readings.cell_energy.Goals as goal

pub returns : goal.returns
unfolding cell_energy
returns c = refl
