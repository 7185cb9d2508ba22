use mathlib.Core.Path.{refl}
use Rattle.runs.proofs.Going.{goes}
use Rattle.preparing.proofs.edges.set_boundary_lossy.Goals as goal

pub returns : goal.returns
returns c =
    let k = c.cichowiej_set_boundary_lossy-n in
    goes _ _ _ _ _ _ _ _ _ c.hold.ensures.0 c.hold.ensures.1 refl refl _ k.ensures.honest
