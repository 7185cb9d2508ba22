use Rattle.std.proofs.Common.{◌∙◌, arith}
use native.Mathlib.Nat.{le_refl}
use Rattle.fdtd.proofs.Spans.{span_step, span_end}
use Rattle.magnetic.proofs.row.fields.Goals as goal

pub loop-i-preserved : goal.loop-i-preserved
loop-i-preserved c =
    let l = c.loop-i in
    span_step _ _ _ _ _ _ _ l.invariant (omega arith) (omega arith) (c.magnetic_value.ensures ∙ rw (l.invariant.over _ (le_refl _)))

pub returns : goal.returns
returns c = span_end _ _ _ _ c.loop-i.invariant (omega arith)
