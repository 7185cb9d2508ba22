use Rattle.study.proofs.Holding.{all_held}
use Rattle.study.proofs.Entries.{cichowiej_run}
use Rattle.calls.proofs.Kept.{sent_as}
use Rattle.api.proofs.steps.cichowiej_run.Goals as goal

pub returns : goal.returns
returns c = let e = sent_as c.code_of.ensures c.run.ensures in record { ids_after = e; honest = cichowiej_run _ _ _ _ _ _ (all_held _ c.type_inv.samples) e }
