use mathlib.Core.Path.{refl}
use Rattle.runs.proofs.Going.{goes}
use Rattle.stepping.proofs.reset_fields.Goals as goal

pub returns : goal.returns
returns c =
    let k = c.cichowiej_reset_fields-n in
    goes _ _ _ _ _ _ _ _ _ c.hold.ensures.0 c.hold.ensures.1 refl refl _ k.ensures.honest
