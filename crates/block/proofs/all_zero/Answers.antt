use Rattle.block.proofs.Turns.{zeros_more, zeros_all}
use Rattle.block.proofs.all_zero.Goals as goal

pub loop-x-preserved : goal.loop-x-preserved
loop-x-preserved c = zeros_more c.args.s.now c.loop-x.x-index c.loop-x.zero c.loop-x.invariant c.loop-x-test.true

pub returns : goal.returns
returns c = zeros_all c.args.s.now c.loop-x.x-index c.loop-x.zero c.loop-x.invariant c.loop-x-test.false
