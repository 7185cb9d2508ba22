use Rattle.std.proofs.Common.{◌≡◌, ℕ, subst, arith}
use Rattle.ade.proofs.Columns.{span_more}
use Rattle.ade.specs.Inner.Runs.{Changed, by_span}
use Rattle.ade.proofs.span.Goals as goal

pub loop-m-preserved : goal.loop-m-preserved
loop-m-preserved c =
    let l = c.loop-m in
    let pre = c.requires.n_in_bounds in
    let a = c.args in
    span_more a.k a.e.now a.w.n a.c a.i a.j a.d a.w.a l.m a.poles.now l.poles _ l.invariant (omega arith) (omega arith) pre.0 pre.1 pre.2 c.turn.ensures

pub returns : goal.returns
returns c =
    let a = c.args in
    let l = c.loop-m in
    let q : l.m ≡ a.w.z = omega arith in
    subst (λ (y : ℕ). Changed a.w.n a.w.a y (by_span a.k a.e.now a.w.n a.c a.i a.j a.d) a.poles.now l.poles) q l.invariant
