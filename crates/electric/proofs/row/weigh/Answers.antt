use Rattle.std.proofs.Common.{arith}
use Rattle.fdtd.proofs.Spans.{span_start, first_step, span_end}
use Rattle.electric.proofs.row.weigh.Goals as goal

pub loop-i-init : goal.loop-i-init
loop-i-init c = (span_start _ _ _ _, span_start _ _ _ _)

pub loop-i-preserved : goal.loop-i-preserved
loop-i-preserved c =
    let l = c.loop-i in
    let w = c.weights_of-w.ensures in
    (first_step _ _ _ _ _ _ l.invariant.0 (omega arith) (omega arith) w.0, first_step _ _ _ _ _ _ l.invariant.1 (omega arith) (omega arith) w.1)

pub returns : goal.returns
returns c = record { ca = span_end _ _ _ _ c.loop-i.invariant.0 (omega arith); cb = span_end _ _ _ _ c.loop-i.invariant.1 (omega arith) }
