use Rattle.cpml.proofs.absorber.put_axis.Goals as goal

pub returns-then-on : goal.returns-then-on
returns-then-on c = rw c.if-on.true c.copy.ensures
