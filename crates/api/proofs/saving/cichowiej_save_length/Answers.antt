use Rattle.study.proofs.Entries.{cichowiej_save_length}
use Rattle.calls.proofs.Kept.{readout_as}
use Rattle.api.proofs.saving.cichowiej_save_length.Goals as goal

pub returns : goal.returns
returns c = let e = readout_as c.code_of.ensures c.save_length.ensures in record { length_after = e; honest = cichowiej_save_length _ _ _ _ e }
