use Rattle.std.proofs.Common.{sym, ap, ◌∙◌}
use Rattle.root.specs.Rounded.{◌⊗◌}
use Rattle.boundary.specs.Lossy.{power}
use Rattle.boundary.proofs.Power.{power_0, power_even, power_odd}
use Rattle.boundary.proofs.lossy.+powi.Goals as goal

pub returns-then-n-eq0 : goal.returns-then-n-eq0
returns-then-n-eq0 t c = sym (ap (power c.args.u) c.if-n-eq0.true ∙ power_0 _)

pub returns-then-n-eq0-2 : goal.returns-then-n-eq0-2
returns-then-n-eq0-2 t c = c.powi.ensures ∙ sym (power_even _ _ c.if-n-eq0.false c.if-n-eq0-2.true)

pub returns : goal.returns
returns t c = ap (λ x. c.args.u ⊗ x) c.powi-2.ensures ∙ sym (power_odd _ _ c.if-n-eq0-2.false)
