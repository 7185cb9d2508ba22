use mathlib.Core.Path.{refl}
use Rattle.fields.specs.Fields.{squared}
use Rattle.fields.proofs.readings.squared_of.Goals as goal

pub returns : goal.returns
unfolding squared
returns c = refl
