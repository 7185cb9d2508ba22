use Rattle.study.proofs.Entries.{cichowiej_slab_z}
use Rattle.calls.proofs.Kept.{sent_as}
use Rattle.api.proofs.waves.cichowiej_slab_z.Goals as goal

pub returns : goal.returns
returns c = let e = sent_as c.code_of.ensures c.slab_z.ensures in record { aux_after = e; honest = cichowiej_slab_z _ _ _ _ _ _ _ e }
