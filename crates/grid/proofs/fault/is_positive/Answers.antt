use Rattle.grid.proofs.Judging.{positive_is}
use Rattle.grid.proofs.fault.is_positive.Goals as goal

pub returns : goal.returns
returns c = positive_is _
