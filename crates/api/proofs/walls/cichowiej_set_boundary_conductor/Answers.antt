use Rattle.study.proofs.Entries.{cichowiej_set_boundary_conductor}
use Rattle.calls.proofs.Kept.{sent_as}
use Rattle.api.proofs.walls.cichowiej_set_boundary_conductor.Goals as goal

pub returns : goal.returns
returns c = let e = sent_as c.code_of.ensures c.set_boundary_conductor.ensures in record { tables_after = e; honest = cichowiej_set_boundary_conductor _ _ _ _ _ e }
