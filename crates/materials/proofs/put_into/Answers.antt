use mathlib.Core.Path.{◌≡◌, subst}
use mathlib.Core.Bool.{true}
use Rattle.materials.specs.declared.Put.{Put}
use Rattle.materials.specs.Materials.{is_known}
use Rattle.materials.proofs.Placing.{known_below, numbers_put, material_put}
use Rattle.materials.proofs.put_into.Goals as goal

pub put_material-requires : goal.put_material-requires
put_material-requires c =
    let a = c.args in
    let pre = c.requires in
    (pre.0, known_below _ _ _ _ pre.0 (subst (λ (u : Put). is_known a.r u ≡ true) c.in-Library.is pre.1))

pub returns-in-Numbers : goal.returns-in-Numbers
returns-in-Numbers c = numbers_put _ _ _ _ _ _ _ _ c.in-Numbers.is c.set_media.ensures

pub returns-in-Library : goal.returns-in-Library
returns-in-Library c = material_put _ _ _ _ _ _ c.in-Library.is c.put_material.ensures
