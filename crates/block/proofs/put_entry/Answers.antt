use Rattle.block.proofs.Turns.{entry_put, entry_none}
use Rattle.block.proofs.put_entry.Goals as goal

pub returns-then-counted : goal.returns-then-counted
returns-then-counted c = entry_put _ _ _ _ _ c.if-counted.true c.put_ml.ensures

pub returns-else-counted : goal.returns-else-counted
returns-else-counted c = entry_none _ _ _ _ _ c.if-counted.false c.put_zeros.ensures
