use Rattle.runs.proofs.Going.{step_and_back}
use Rattle.program.proofs.branches.step_and_back.Goals as goal

pub returns : goal.returns
returns c = step_and_back _ _ _ _ _ _ _ _ _ c.step.ensures c.rewind.ensures
