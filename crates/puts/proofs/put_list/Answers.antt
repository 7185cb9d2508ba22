use native.Mathlib.Omega.{arith}
use Rattle.cells.proofs.Written.{joined_none}
use Rattle.puts.proofs.Placed.{list_more, list_all}
use Rattle.puts.proofs.put_list.Goals as goal

pub loop-i-init : goal.loop-i-init
loop-i-init c = joined_none _ _ _

pub loop-i-preserved : goal.loop-i-preserved
loop-i-preserved c =
    let l = c.loop-i in
    list_more _ _ _ _ l.i _ c.args.r.materials c.requires.0 c.loop-i-test.true l.invariant c.put_ml.ensures

pub returns : goal.returns
returns c =
    let l = c.loop-i in
    list_all _ _ _ l.i _ l.invariant (omega arith)
