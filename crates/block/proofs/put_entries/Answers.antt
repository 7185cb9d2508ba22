use Rattle.std.proofs.Common.{arith}
use Rattle.cells.proofs.Written.{joined_none, joined_all}
use Rattle.heads.specs.Numbers.{gh_length}
use Rattle.block.proofs.Turns.{entries_more}
use Rattle.block.proofs.put_entries.Goals as goal

pub loop-i-init : goal.loop-i-init
loop-i-init c = joined_none _ gh_length _

pub loop-i-preserved : goal.loop-i-preserved
loop-i-preserved c = entries_more _ _ _ c.loop-i.i _ c.requires c.loop-i-test.true c.loop-i.invariant c.put_entry.ensures

pub returns : goal.returns
returns c = joined_all _ _ gh_length c.loop-i.i 16 _ c.loop-i.invariant (omega arith)
