use Rattle.tfsf.specs.Corrections.{signed}
use lib.Ieee.{neg}
use mathlib.Core.Bool.{Bool}
use mathlib.Core.Path.{sym, ap}
use Rattle.corrections.proofs.signed.Goals as goal

pub returns-then-minus : goal.returns-then-minus
unfolding neg
returns-then-minus c = let a = c.args in ap (λ (b : Bool). signed b a.x) (sym c.if-minus.true)
