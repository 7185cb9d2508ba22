use Rattle.study.proofs.Holding.{all_bytes}
use Rattle.study.proofs.Entries.{cichowiej_add_material}
use Rattle.calls.proofs.Kept.{sent_as}
use Rattle.api.proofs.library.cichowiej_add_material.Goals as goal

pub returns : goal.returns
returns c = let e = sent_as c.code_of.ensures c.add_material.ensures in record { id_after = e; honest = cichowiej_add_material _ _ _ _ _ _ (all_bytes _ (λ i. (c.type_inv.material i).fits)) e }
