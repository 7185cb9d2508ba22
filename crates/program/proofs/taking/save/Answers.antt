use Rattle.runs.proofs.Going.{saved}
use Rattle.program.proofs.taking.save.Goals as goal

pub returns : goal.returns
returns c = let k = c.cichowiej_save-n in saved _ _ _ _ _ _ c.hold.ensures.0 c.hold.ensures.1 k.result k.ensures.honest
