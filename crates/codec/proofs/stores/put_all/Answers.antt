use Rattle.codec.proofs.Loops.{written_none, written_more}
use Rattle.codec.proofs.stores.put_all.Goals as goal

pub loop-i-init : goal.loop-i-init
loop-i-init g c = let e = g.T.Element in let a = c.args in written_none e.WIDTH e.number a.out.now a.at a.xs.now

pub loop-i-preserved : goal.loop-i-preserved
loop-i-preserved g c =
    let e = g.T.Element in
    let a = c.args in
    let l = c.loop-i in
    written_more e.WIDTH e.number a.out.now a.at a.xs.now l.i _ c.requires c.loop-i-test.true c.index-xs-i.is l.invariant (rw c.WIDTH.ensures at c.put.ensures)
