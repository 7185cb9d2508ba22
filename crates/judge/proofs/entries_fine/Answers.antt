use Rattle.std.proofs.Common.{rules, sym, drop}
use Rattle.grid.specs.Fault.{all_below}
use Rattle.grid.proofs.Judging.{all_more, all_fails}
use Rattle.grid.proofs.Tests.{unless, met}
use Rattle.heads.specs.Numbers.{ml_fine}
use Rattle.heads.specs.Payloads.{entry_at}
use Rattle.judge.proofs.Judged.{fine_at}
use Rattle.judge.proofs.entries_fine.Goals as goal

pub loop-i-init : goal.loop-i-init
unfolding all_below
loop-i-init c = search rules

pub returns-then-not-ml_fine : goal.returns-then-not-ml_fine
returns-then-not-ml_fine c =
    let a = c.args in
    let l = c.loop-i in
    sym (all_fails (λ k. ml_fine (entry_at (drop a.at a.b.now) k)) l.i a.count c.loop-i-test.true
    (unless (fine_at a.b.now a.at l.i _ _ c.get_ml.ensures c.ml_fine.ensures) c.if-not-ml_fine.true))

pub loop-i-preserved : goal.loop-i-preserved
loop-i-preserved c =
    let a = c.args in
    let l = c.loop-i in
    all_more (λ k. ml_fine (entry_at (drop a.at a.b.now) k)) l.i l.invariant
    (met (fine_at a.b.now a.at l.i _ _ c.get_ml.ensures c.ml_fine.ensures) c.if-not-ml_fine.false)
