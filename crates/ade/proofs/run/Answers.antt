use Rattle.std.proofs.Common.{◌≡◌, ℕ, subst, arith}
use Rattle.ade.proofs.Columns.{run_more, run_none}
use Rattle.ade.specs.Inner.Runs.{Changed, by_run}
use Rattle.ade.proofs.run.Goals as goal

pub loop-s-init : goal.loop-s-init
loop-s-init c =
    let a = c.args in
    run_none a.k.now a.e.now a.w.n a.slots a.w.a a.w.z a.poles.now

pub loop-s-preserved : goal.loop-s-preserved
loop-s-preserved c =
    let l = c.loop-s in
    let a = c.args in
    run_more a.k.now a.e.now a.w.n a.slots l.s a.w.a a.w.z a.poles.now l.poles _ l.invariant c.components.ensures

pub returns : goal.returns
returns c =
    let a = c.args in
    let l = c.loop-s in
    let q : l.s ≡ a.k.now.count = omega arith in
    subst (λ (t : ℕ). Changed a.w.n a.w.a a.w.z (by_run a.k.now a.e.now a.w.n a.slots t) a.poles.now l.poles) q l.invariant
