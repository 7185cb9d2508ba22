use Rattle.runs.proofs.Going.{over_and_back}
use Rattle.program.proofs.branches.over_and_back.Goals as goal

pub returns : goal.returns
returns c = over_and_back _ _ _ _ _ _ _ _ _ _ c.rewind.ensures c.rewind-2.ensures
