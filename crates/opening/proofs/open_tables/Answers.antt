use Rattle.opening.proofs.Opened.{tables_are}
use Rattle.opening.proofs.open_tables.Goals as goal

pub returns : goal.returns
returns c = rw (c.inactive_axis-3.ensures, c.inactive_axis-2.ensures, c.inactive_axis.ensures) (tables_are _ _ _ _ c.requires)
