use Rattle.study.proofs.Entries.{cichowiej_build_dispersion}
use Rattle.calls.proofs.Kept.{sent_as}
use Rattle.api.proofs.library.cichowiej_build_dispersion.Goals as goal

pub returns : goal.returns
returns c = let e = sent_as c.code_of.ensures c.build_dispersion.ensures in record { poles_after = e; honest = cichowiej_build_dispersion _ _ _ _ _ e }
