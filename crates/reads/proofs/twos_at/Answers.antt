use Rattle.std.proofs.Common.{arith}
use Rattle.codec.proofs.Loops.{row_none, row_more, row_all}
use Rattle.reads.proofs.twos_at.Goals as goal

pub loop-i-init : goal.loop-i-init
loop-i-init g c = row_none 2 g.row.N c.args.s.now c.args.at

pub loop-i-preserved : goal.loop-i-preserved
loop-i-preserved g c =
    let a = c.args in
    let l = c.loop-i in
    row_more 2 g.row.N a.s.now a.at l.i c.loop-i-test.true l.invariant c.two_at.ensures

pub returns : goal.returns
returns g c = row_all 2 g.row.N c.args.s.now c.args.at (omega arith) c.loop-i.invariant
