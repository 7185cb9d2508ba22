use Rattle.boundary.proofs.Graded.{wall_none, wall_some}
use Rattle.boundary.proofs.lossy.apply_lossy_absorber.Goals as goal

pub returns-then-tx-ty : goal.returns-then-tx-ty
returns-then-tx-ty c =
    let a = c.args in
    wall_none a.r a.a a.media.now _ _ _ c.clamp-tx.ensures c.clamp-ty.ensures c.clamp-tz.ensures c.if-tx-ty.true

pub returns : goal.returns
returns c =
    let a = c.args in
    wall_some a.r a.a a.media.now _ _ _ c.clamp-tx.ensures c.clamp-ty.ensures c.clamp-tz.ensures _ c.if-tx-ty.false c.graded.ensures
