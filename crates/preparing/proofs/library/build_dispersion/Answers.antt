use mathlib.Core.Path.{refl}
use Rattle.runs.proofs.Going.{goes}
use Rattle.preparing.proofs.library.build_dispersion.Goals as goal

pub returns : goal.returns
returns c =
    let k = c.cichowiej_build_dispersion-n in
    goes _ _ _ _ _ _ _ _ _ c.hold.ensures.0 c.hold.ensures.1 refl refl _ k.ensures.honest
