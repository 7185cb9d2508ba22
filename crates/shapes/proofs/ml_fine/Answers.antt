use mathlib.Core.Path.{refl}
use Rattle.grid.specs.Fault.{all_below}
use Rattle.heads.specs.Numbers.{ml_fine}
use Rattle.shapes.proofs.ml_fine.Goals as goal

pub returns : goal.returns
unfolding ml_fine all_below
returns c = rw (c.three_fine-5.ensures, c.ml_shaped.ensures, c.three_fine-4.ensures, c.three_fine-3.ensures, c.three_fine-2.ensures, c.three_fine.ensures) refl
