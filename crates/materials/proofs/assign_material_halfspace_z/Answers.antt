use Rattle.std.proofs.Common.{rules, ◌≡◌}
use Rattle.refusals.specs.Refusals.{code}
use Rattle.materials.proofs.Placing.{uncounted_of}
use Rattle.materials.proofs.assign_material_halfspace_z.Goals as goal

pub returns-in_err-put_box : goal.returns-in_err-put_box
returns-in_err-put_box c =
    let same : code c.from_residual.result ≡ code c.put_box.result = search rules in
    rw same (uncounted_of _ _ _ _ _ _ _ _ c.put_box.ensures)

pub returns : goal.returns
returns c = uncounted_of _ _ _ _ _ _ _ _ c.in_ok-put_box.ensures
