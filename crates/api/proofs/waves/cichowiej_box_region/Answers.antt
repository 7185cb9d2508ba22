use Rattle.study.proofs.Entries.{cichowiej_box_region}
use Rattle.calls.proofs.Kept.{sent_as}
use Rattle.api.proofs.waves.cichowiej_box_region.Goals as goal

pub returns : goal.returns
returns c = let e = sent_as c.code_of.ensures c.box_region.ensures in record { aux_after = e; honest = cichowiej_box_region _ _ _ _ _ _ _ _ _ _ _ e }
