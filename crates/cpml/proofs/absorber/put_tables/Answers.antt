use Rattle.cpml.proofs.Tables.{tables_put}
use Rattle.cpml.proofs.absorber.put_tables.Goals as goal

pub returns : goal.returns
returns c = tables_put _ _ _ _ _ _ _ _ _ c.requires.3 c.requires.4 c.put_axis.ensures c.put_axis-2.ensures c.put_axis-3.ensures
