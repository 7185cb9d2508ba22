use Rattle.std.proofs.Common.{◌+◌, get_or, rules}
use lib.Ieee.{nan}
use Rattle.root.specs.Rounded.{◌⊘◌, zero_f}
use Rattle.fdtd.proofs.Spans.{span_as}
use Rattle.electric.proofs.Edges.{by_poles, by_none}
use Rattle.electric.proofs.row.fields.Goals as goal

pub returns-then-w : goal.returns-then-w
returns-then-w c = let a = c.args in span_as _ _ _ _ (c.numbers.ensures (λ i. get_or a.poles.now (a.w.at + i) nan ⊘ a.w.dt) (λ i x l p. search rules)) (λ i k l. by_poles a.w _ _ _ _ _ i c.if-w.true)

pub returns-else-w : goal.returns-else-w
returns-else-w c = let a = c.args in span_as _ _ _ _ (c.numbers-else-w.ensures (λ i. zero_f ⊘ a.w.dt) (λ i x l p. search rules)) (λ i k l. by_none a.w _ _ _ _ _ i c.if-w.false)
