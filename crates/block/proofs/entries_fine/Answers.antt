use Rattle.std.proofs.Common.{◌≡◌, refl, sym, ap, ◌∙◌, arith}
use Rattle.grid.specs.Fault.{all_below}
use Rattle.grid.proofs.Judging.{all_more, all_fails}
use Rattle.grid.proofs.Tests.{unless, met}
use Rattle.block.specs.Block.{entry_fine}
use Rattle.block.proofs.entries_fine.Goals as goal

pub loop-i-init : goal.loop-i-init
unfolding all_below
loop-i-init c = refl

pub returns-then-not-entry_fine : goal.returns-then-not-entry_fine
returns-then-not-entry_fine c = sym (all_fails _ c.loop-i.i 16 c.loop-i-test.true (unless c.entry_fine.ensures c.if-not-entry_fine.true))

pub loop-i-preserved : goal.loop-i-preserved
loop-i-preserved c = all_more _ c.loop-i.i c.loop-i.invariant (met c.entry_fine.ensures c.if-not-entry_fine.false)

pub returns : goal.returns
returns c =
    let e : 16 ≡ c.loop-i.i = omega arith in
    sym (ap (all_below (entry_fine c.args.b.now)) e ∙ c.loop-i.invariant)
