use Rattle.study.proofs.Entries.{cichowiej_save}
use Rattle.calls.proofs.Kept.{readout_as}
use Rattle.api.proofs.saving.cichowiej_save.Goals as goal

pub returns : goal.returns
returns c = let e = readout_as c.code_of.ensures c.save.ensures in record { out_after = e; honest = cichowiej_save _ _ _ _ _ e }
