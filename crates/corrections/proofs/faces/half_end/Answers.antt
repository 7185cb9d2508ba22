use Rattle.tfsf.specs.Corrections.{half_end}
use mathlib.Core.Bool.{Bool}
use mathlib.Core.Path.{sym, ap}
use Rattle.corrections.proofs.faces.half_end.Goals as goal

pub returns-else-closed : goal.returns-else-closed
returns-else-closed c = let a = c.args in ap (λ (b : Bool). half_end b a.last) (sym c.if-closed.false)
