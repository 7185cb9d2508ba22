use Rattle.study.proofs.Entries.{cichowiej_injector_z}
use Rattle.calls.proofs.Kept.{sent_as}
use Rattle.api.proofs.waves.cichowiej_injector_z.Goals as goal

pub returns : goal.returns
returns c = let e = sent_as c.code_of.ensures c.injector_z.ensures in record { aux_after = e; honest = cichowiej_injector_z _ _ _ _ _ _ e }
