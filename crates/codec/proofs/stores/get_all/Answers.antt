use Rattle.std.proofs.Common.{refl}
use Rattle.codec.specs.Bytes.{elements_of}
use Rattle.codec.proofs.Loops.{filled_more}
use Rattle.codec.proofs.stores.get_all.Goals as goal

pub loop-i-init : goal.loop-i-init
unfolding elements_of
loop-i-init g c = refl

pub loop-i-preserved : goal.loop-i-preserved
loop-i-preserved g c =
    let e = g.T.Element in
    let a = c.args in
    let l = c.loop-i in
    filled_more e.WIDTH e.element a.s.now a.at a.xs.now l.i c.loop-i-test.true l.invariant (rw c.WIDTH.ensures at c.get.ensures)
