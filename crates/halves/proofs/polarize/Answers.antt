use Rattle.halves.proofs.Parts.{moves, rests}
use Rattle.halves.proofs.polarize.Goals as goal

pub returns-then-r-ne0 : goal.returns-then-r-ne0
returns-then-r-ne0 c = moves _ _ _ _ _ c.if-r-ne0.true c.advance.ensures

pub returns-else-r-ne0 : goal.returns-else-r-ne0
returns-else-r-ne0 c = rests _ _ _ _ _ c.if-r-ne0.false
