use Rattle.std.proofs.Common.{rules, refl}
use Rattle.opening.specs.Layer.{cleared_layer}
use Rattle.opening.proofs.layer.clear_layer.Goals as goal

pub returns : goal.returns
unfolding cleared_layer
returns c = rw (c.open_tables.ensures, c.fill-2.ensures.after (λ y h. h), c.fill.ensures.after (λ y h. h)) refl
