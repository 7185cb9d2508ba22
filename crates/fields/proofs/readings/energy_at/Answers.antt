use Rattle.fields.proofs.Places.{first_place, second_place}
use Rattle.fields.specs.Fields.{energy_at}
use mathlib.Core.Path.{◌∙◌}
use Rattle.fields.proofs.readings.energy_at.Goals as goal

pub returns : goal.returns
unfolding energy_at
returns c = let a = c.args in let m = a.media.now in let p0 = first_place m a.n a.m in let p1 = second_place m a.n a.m in let e2 = c.square_at-e2.ensures in let h2 = c.square_at-h2.ensures in c.cell_energy.ensures ∙ rw (p0, p1, e2, h2)
