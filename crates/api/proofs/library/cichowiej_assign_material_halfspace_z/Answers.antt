use Rattle.study.proofs.Entries.{cichowiej_assign_material_halfspace_z}
use Rattle.calls.proofs.Kept.{sent_as}
use Rattle.api.proofs.library.cichowiej_assign_material_halfspace_z.Goals as goal

pub returns : goal.returns
returns c = let e = sent_as c.code_of.ensures c.assign_material_halfspace_z.ensures in record { ids_after = e; honest = cichowiej_assign_material_halfspace_z _ _ _ _ _ _ _ _ _ e }
