use mathlib.Core.Path.{sym, ◌∙◌}
use native.Mathlib.Omega.{arith}
use Rattle.grid.specs.Fault.{size_fits}
use Rattle.grid.proofs.Tests.{and_yes, and_no}
use Rattle.grid.proofs.Judging.{sides_of}
use Rattle.grid.proofs.fault.size_fits.Goals as goal

pub overflow_mul-result : goal.overflow_mul-result
overflow_mul-result c = omega (arith, (sides_of _ _ _ (sym c.sides_fit.ensures ∙ c.if-sides_fit.true)).plane)

pub overflow_mul-result-then-sides_fit : goal.overflow_mul-result-then-sides_fit
overflow_mul-result-then-sides_fit c = omega (arith, (sides_of _ _ _ (sym c.sides_fit.ensures ∙ c.if-sides_fit.true)).wide)

pub returns-then-sides_fit : goal.returns-then-sides_fit
unfolding size_fits
returns-then-sides_fit c = and_yes c.sides_fit.ensures c.if-sides_fit.true

pub returns-else-sides_fit : goal.returns-else-sides_fit
unfolding size_fits
returns-else-sides_fit c = c.if-sides_fit.false ∙ and_no _ c.sides_fit.ensures c.if-sides_fit.false
