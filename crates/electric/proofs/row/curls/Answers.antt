use Rattle.std.proofs.Common.{◌∙◌, arith}
use Rattle.fdtd.proofs.Trios.{trio_end, trio_as, trio_front}
use Rattle.electric.proofs.Slopes.{slope_inner, slope_first, trio_from}
use Rattle.electric.proofs.row.curls.Goals as goal

pub returns-then-a-eq0 : goal.returns-then-a-eq0
returns-then-a-eq0 c =
    let a = c.args in
    trio_from
    (trio_front _ _ _ 0
    (trio_end _ _ _ _ (trio_as _ _ _ _ c.pairs.ensures (λ i k l. slope_inner a.b _ a.n i c.behind.ensures k) (λ i k l. slope_inner a.c _ a.n i c.behind-2.ensures k)) (omega arith))
    c.put_pair.ensures (omega arith)
    (c.slope_of-x.ensures ∙ slope_first a.b _ a.n c.first.ensures)
    (c.slope_of-y.ensures ∙ slope_first a.c _ a.n c.first-then-a-eq0.ensures))
    (omega arith)

pub returns-else-a-eq0 : goal.returns-else-a-eq0
returns-else-a-eq0 c =
    let a = c.args in
    trio_from
    (trio_end _ _ _ _ (trio_as _ _ _ _ c.pairs.ensures (λ i k l. slope_inner a.b _ a.n i c.behind.ensures k) (λ i k l. slope_inner a.c _ a.n i c.behind-2.ensures k)) (omega arith))
    (omega arith)
