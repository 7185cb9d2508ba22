use Rattle.study.proofs.Holding.{held_more, held_none}
use Rattle.study.proofs.Entries.{cichowiej_set_boundary_lossy}
use Rattle.calls.proofs.Kept.{sent_as}
use Rattle.api.proofs.walls.cichowiej_set_boundary_lossy.Goals as goal

pub returns : goal.returns
returns c = let e = sent_as c.code_of.ensures c.set_boundary_lossy.ensures in record { media_after = e; honest = cichowiej_set_boundary_lossy _ _ _ _ _ _ (held_more _ _ c.well_formed.1.1.1.0.1 held_none) e }
