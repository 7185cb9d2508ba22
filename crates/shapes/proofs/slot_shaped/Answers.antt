use mathlib.Core.Path.{refl}
use Rattle.heads.specs.Numbers.{slot_shaped}
use Rattle.shapes.proofs.slot_shaped.Goals as goal

pub returns-then-not-counted : goal.returns-then-not-counted
unfolding slot_shaped
returns-then-not-counted c = rw (c.if-not-counted.true) refl

pub returns : goal.returns
unfolding slot_shaped
returns c = rw (c.if-not-counted.false, c.is_tag.ensures) refl
