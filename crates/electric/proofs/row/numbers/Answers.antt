use Rattle.std.proofs.Common.{◌+◌, ◌∙◌, arith}
use native.Mathlib.Nat.{le_refl}
use Rattle.fdtd.proofs.Spans.{span_start, span_step, span_end}
use Rattle.electric.proofs.row.numbers.Goals as goal

pub loop-i-init : goal.loop-i-init
loop-i-init g c = λ t h. span_start _ _ _ _

pub loop-i-preserved : goal.loop-i-preserved
loop-i-preserved g c = λ t h.
    let l = c.loop-i in
    let s = l.invariant t h in
    span_step _ _ _ _ _ _ _ s (omega arith) (omega arith) (c.electric_value.ensures ∙ rw (s.over (c.args.q + l.i) (le_refl _), h l.i c.term.result (omega arith) c.term.ensures))

pub returns : goal.returns
returns g c = λ t h. span_end _ _ _ _ (c.loop-i.invariant t h) (omega arith)
