use Rattle.study.proofs.Entries.{cichowiej_reset_fields}
use Rattle.calls.proofs.Kept.{sent_as}
use Rattle.api.proofs.studies.cichowiej_reset_fields.Goals as goal

pub returns : goal.returns
returns c = let e = sent_as c.code_of.ensures c.reset_fields.ensures in record { poles_after = e; honest = cichowiej_reset_fields _ _ _ _ _ e }
