use Rattle.std.proofs.Common.{◌+◌, refl, ap, arith}
use native.Mathlib.Nat.{le_refl}
use Rattle.cpml.specs.declared.Advanced.{Advanced}
use Rattle.fdtd.proofs.Cellwise.{live_law, mem_law}
use Rattle.fdtd.proofs.Spans.{span_step, first_step, span_end}
use Rattle.fdtd.proofs.rows.live.Goals as goal

pub loop-i-preserved : goal.loop-i-preserved
loop-i-preserved c =
    let l = c.loop-i in
    let a = c.args in
    let k = c.coef_at-k.ensures in
    let moved = c.advance-moved.ensures in
    let m = l.invariant.1.over (a.s.mem + l.i) (le_refl (a.s.mem + l.i)) in
    let u = l.invariant.0.over l.i (omega arith) in (
      first_step _ _ _ _ _ _ l.invariant.0 (omega arith) (omega arith) (live_law a.second c.join.ensures u (ap (λ (x : Advanced). x.answer) moved) c.stretch.ensures k m refl),
      span_step _ _ _ _ _ _ _ l.invariant.1 (omega arith) (omega arith) (mem_law (ap (λ (x : Advanced). x.memory) moved) k m refl),
    )

pub returns : goal.returns
returns c = record { curl = span_end _ _ _ _ c.loop-i.invariant.0 (omega arith); memory = span_end _ _ _ _ c.loop-i.invariant.1 (omega arith) }
