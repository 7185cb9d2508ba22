use Rattle.root.proofs.Scaling.{normal, subnormal}
use Rattle.root.proofs.scale_up.Goals as goal

pub returns-then-field-gt0 : goal.returns-then-field-gt0
returns-then-field-gt0 c = normal _ _ c.requires.0 c.requires.1 c.if-field-gt0.true

pub overflow_sub-shift : goal.overflow_sub-shift
overflow_sub-shift c = (subnormal _ _ c.if-field-gt0.false c.requires.1 c.requires.2).0

pub returns : goal.returns
returns c = (subnormal _ _ c.if-field-gt0.false c.requires.1 c.requires.2).1
