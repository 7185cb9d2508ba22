use Rattle.std.proofs.Common.{◌≡◌, ◌-◌, ◌<◌, ◌∙◌, arith}
use borrow.Author.Tests.{eqb-true}
use Rattle.grid.proofs.Tests.{and_left}
use Rattle.fdtd.proofs.Trios.{trio_step, trio_end, trio_as}
use Rattle.magnetic.proofs.Slopes.{slope_ahead, slope_last, short_x, short_y}
use Rattle.magnetic.proofs.row.curls.Goals as goal

pub returns-then-m-n : goal.returns-then-m-n
returns-then-m-n c =
    let a = c.args in
    let whole : a.m ≡ a.n = eqb-true _ _ (and_left _ _ c.if-m-n.true) in
    trio_end _ _ _ _
    (trio_step _ _ _ _ (trio_end _ _ _ _ (trio_as _ _ _ _ c.pairs.ensures (λ i k l. slope_ahead a.b _ a.n i c.ahead.ensures (λ p. omega arith)) (λ i k l. slope_ahead a.c _ a.n i c.ahead-then-m-n.ensures (λ p. omega arith))) (omega arith))
    c.put_pair.ensures (omega arith)
    (c.slope_of-x.ensures ∙ slope_last a.b _ a.n (a.n - 1) c.last.ensures (omega arith))
    (c.slope_of-y.ensures ∙ slope_last a.c _ a.n (a.n - 1) c.last-then-m-n.ensures (omega arith)))
    (omega arith)

pub returns-else-m-n : goal.returns-else-m-n
returns-else-m-n c =
    let a = c.args in
    let off = c.if-m-n.false in
    trio_end _ _ _ _
    (trio_as _ _ _ _ c.pairs-else-m-n.ensures
    (λ i k l. slope_ahead a.b _ a.n i c.ahead-else-m-n.ensures (λ p. let s : a.m < a.n = short_x a.b.along a.c.along a.m a.n off (omega arith) p in omega arith))
    (λ i k l. slope_ahead a.c _ a.n i c.ahead-else-m-n-2.ensures (λ p. let s : a.m < a.n = short_y a.b.along a.c.along a.m a.n off (omega arith) p in omega arith)))
    (omega arith)
