use Rattle.study.proofs.Holding.{all_bytes}
use Rattle.study.proofs.Entries.{cichowiej_rewind}
use Rattle.calls.proofs.Kept.{sent_as}
use Rattle.api.proofs.saving.cichowiej_rewind.Goals as goal

pub returns : goal.returns
returns c = let e = sent_as c.code_of.ensures c.rewind.ensures in record { ids_after = e; honest = cichowiej_rewind _ _ _ _ _ _ (all_bytes _ (λ i. (c.type_inv.save i).fits)) e }
