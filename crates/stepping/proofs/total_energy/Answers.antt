use mathlib.Core.Path.{refl}
use Rattle.runs.proofs.Going.{goes}
use Rattle.stepping.proofs.total_energy.Goals as goal

pub returns : goal.returns
returns c =
    let k = c.cichowiej_total_energy-n in
    goes _ _ _ _ _ _ _ _ _ c.hold.ensures.0 c.hold.ensures.1 (refl, refl, refl) refl _ k.ensures.honest
