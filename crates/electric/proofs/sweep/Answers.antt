use Rattle.fdtd.proofs.Places.{row_more}
use native.Mathlib.Omega.{arith}
use Rattle.fdtd.proofs.Lines.{done_as}
use mathlib.Core.Path.{◌≡◌}
use Rattle.electric.proofs.sweep.Goals as goal

pub loop-t-preserved : goal.loop-t-preserved
loop-t-preserved c =
    let a = c.args in
    let l1 = c.loop-t in
    let l2 = c.loop-s in
    done_as (l2.invariant _ _ l1.invariant) (omega (arith, row_more l1.t a.x.now.g.s.n))

pub returns : goal.returns
returns c =
    let a = c.args in
    let l = c.loop-t in
    let e : l.t ≡ a.x.now.g.t.n = omega arith in
    done_as l.invariant (rw e)
