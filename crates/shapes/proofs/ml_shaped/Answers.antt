use mathlib.Core.Path.{refl}
use Rattle.grid.specs.Fault.{all_below}
use Rattle.heads.specs.Numbers.{ml_shaped}
use Rattle.shapes.proofs.ml_shaped.Goals as goal

pub returns : goal.returns
unfolding ml_shaped all_below
returns c = rw (c.slot_shaped-4.ensures, c.slot_shaped-3.ensures, c.slot_shaped-2.ensures, c.slot_shaped.ensures) refl
