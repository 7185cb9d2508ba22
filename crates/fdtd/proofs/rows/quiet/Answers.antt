use Rattle.std.proofs.Common.{◌∙◌, arith}
use Rattle.fdtd.proofs.Spans.{first_step, span_end}
use Rattle.fdtd.proofs.rows.quiet.Goals as goal

pub loop-i-preserved : goal.loop-i-preserved
loop-i-preserved c =
    let l = c.loop-i in
    first_step _ _ _ _ _ _ l.invariant (omega arith) (omega arith) (c.join.ensures ∙ rw (c.stretch.ensures, c.coef_at-k.ensures, l.invariant.over l.i (omega arith)))

pub returns : goal.returns
returns c = span_end _ _ _ _ c.loop-i.invariant (omega arith)
