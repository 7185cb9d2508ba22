use mathlib.Core.Path.{refl}
use Rattle.cpml.specs.Memory.{in_order}
use Rattle.cpml.proofs.memory.in_order.Goals as goal

pub returns-then-electric : goal.returns-then-electric
unfolding in_order
returns-then-electric c = rw c.if-electric.true refl

pub returns : goal.returns
unfolding in_order
returns c = rw c.if-electric.false refl
