use Rattle.study.proofs.Holding.{held_more, held_none}
use Rattle.study.proofs.Entries.{cichowiej_step}
use Rattle.calls.proofs.Kept.{sent_as}
use Rattle.api.proofs.steps.cichowiej_step.Goals as goal

pub returns : goal.returns
returns c = let e = sent_as c.code_of.ensures c.step.ensures in record { ids_after = e; honest = cichowiej_step _ _ _ _ _ _ (held_more _ _ c.well_formed.1.0.1 held_none) e }
