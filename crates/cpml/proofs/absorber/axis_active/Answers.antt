use Rattle.cpml.proofs.Axes.{active_is, never_active}
use Rattle.cpml.proofs.absorber.axis_active.Goals as goal

pub returns-then-n-lt2 : goal.returns-then-n-lt2
returns-then-n-lt2 c = never_active _ _ _ c.if-n-lt2.true

pub returns : goal.returns
returns c = active_is _ _ _ c.if-n-lt2.false
