use Rattle.std.proofs.Common.{arith}
use Rattle.cells.proofs.Written.{joined_none, joined_all, row_more}
use Rattle.boundary.proofs.lossy.lossy_row.Goals as goal

pub loop-i-init : goal.loop-i-init
loop-i-init c = joined_none _ _ _

pub loop-i-preserved : goal.loop-i-preserved
loop-i-preserved c = row_more _ _ _ _ _ _ (omega arith) c.loop-i.invariant c.strongest_of.ensures

pub returns : goal.returns
returns c = joined_all _ _ _ c.loop-i.i _ _ c.loop-i.invariant (omega arith)
