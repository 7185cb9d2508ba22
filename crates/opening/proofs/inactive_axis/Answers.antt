use Rattle.opening.proofs.Opened.{inactive_is}
use Rattle.opening.proofs.inactive_axis.Goals as goal

pub returns : goal.returns
returns c = rw (c.fill-4.ensures, c.fill-3.ensures, c.fill-2.ensures, c.fill.ensures) (inactive_is _ _ _ c.requires)
