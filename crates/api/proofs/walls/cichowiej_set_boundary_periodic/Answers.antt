use Rattle.study.proofs.Entries.{cichowiej_set_boundary_periodic}
use Rattle.calls.proofs.Kept.{sent_as}
use Rattle.api.proofs.walls.cichowiej_set_boundary_periodic.Goals as goal

pub returns : goal.returns
returns c = let e = sent_as c.code_of.ensures c.set_boundary_periodic.ensures in record { tables_after = e; honest = cichowiej_set_boundary_periodic _ _ _ _ _ e }
