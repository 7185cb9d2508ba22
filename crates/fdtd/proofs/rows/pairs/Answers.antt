use Rattle.std.proofs.Common.{◌∙◌, arith}
use Rattle.fdtd.proofs.Trios.{slope_from, trio_end, trio_step}
use Rattle.fdtd.proofs.rows.pairs.Goals as goal

pub loop-i-preserved : goal.loop-i-preserved
loop-i-preserved c =
    let l = c.loop-i in
    let a = c.args in
    trio_end _ _ _ _ (trio_step _ _ _ _ l.invariant c.put_pair.ensures (omega arith) (c.slope_of.ensures ∙ slope_from a.b.d a.f.now a.b.lo a.b.hi a.a l.i) (c.slope_of-in-loop-i.ensures ∙ slope_from a.c.d a.f.now a.c.lo a.c.hi a.a l.i)) (omega arith)

pub returns : goal.returns
returns c = trio_end _ _ _ _ c.loop-i.invariant (omega arith)
