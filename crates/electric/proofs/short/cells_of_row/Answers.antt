use native.Mathlib.Omega.{arith}
use Rattle.fdtd.proofs.Singles.{doing_start, doing_end}
use Rattle.electric.proofs.short.cells_of_row.Goals as goal

pub loop-i-init : goal.loop-i-init
loop-i-init c = λ ee mm u. doing_start _ _ u

pub loop-i-preserved : goal.loop-i-preserved
loop-i-preserved c =
    let l = c.loop-i in
    let cell = c.cell in
    λ ee mm u. cell.ensures ee mm (l.invariant ee mm u)

pub returns : goal.returns
returns c =
    let l = c.loop-i in
    let pre = c.requires in
    λ ee mm u. doing_end _ _ pre.s_lt_n.0 (omega arith) (l.invariant ee mm u)
