use Rattle.cpml.specs.Memory.{advanced}
use mathlib.Core.Path.{refl}
use Rattle.cpml.proofs.memory.advance.Goals as goal

pub returns-then-c : goal.returns-then-c
unfolding advanced
returns-then-c c = rw c.if-c.true refl

pub returns : goal.returns
unfolding advanced
returns c = rw c.if-c.false refl
