use Rattle.runs.proofs.Going.{opens, begun}
use Rattle.preparing.proofs.beginning.open.Goals as goal

pub returns : goal.returns
returns c = let f = c.hold.ensures in let g = c.hold-2.ensures in let n = c.cichowiej_open-n.result in let h = c.cichowiej_open-n.ensures.honest in record { begins = begun _ _ _ _ _ f.0 f.1 g.0 g.1 n h; goes = opens _ _ _ _ _ f.0 f.1 g.0 g.1 n h }
