use Rattle.study.proofs.Holding.{all_held}
use Rattle.study.proofs.Entries.{cichowiej_set_boundary_cpml}
use Rattle.calls.proofs.Kept.{sent_as}
use Rattle.api.proofs.walls.cichowiej_set_boundary_cpml.Goals as goal

pub returns : goal.returns
returns c = let e = sent_as c.code_of.ensures c.set_boundary_cpml.ensures in record { tables_after = e; honest = cichowiej_set_boundary_cpml _ _ _ _ _ _ _ _ _ _ _ _ (all_held _ c.type_inv.given) e }
