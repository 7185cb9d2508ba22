use mathlib.Core.Path.{refl}
use Rattle.dispersion.specs.Ade.{second_order}
use Rattle.dispersion.proofs.second_order_coeffs.Goals as goal

pub returns : goal.returns
unfolding second_order
returns c = refl
