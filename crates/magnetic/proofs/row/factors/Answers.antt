use Rattle.std.proofs.Common.{arith}
use Rattle.fdtd.proofs.Spans.{first_step, span_end}
use Rattle.magnetic.proofs.row.factors.Goals as goal

pub loop-i-preserved : goal.loop-i-preserved
loop-i-preserved c = first_step _ _ _ _ _ _ c.loop-i.invariant (omega arith) (omega arith) c.factor_of.ensures

pub returns : goal.returns
returns c = span_end _ _ _ _ c.loop-i.invariant (omega arith)
