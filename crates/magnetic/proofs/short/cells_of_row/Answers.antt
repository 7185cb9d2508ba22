use native.Mathlib.Omega.{arith}
use Rattle.fdtd.proofs.Singles.{doing_start, doing_end}
use Rattle.magnetic.proofs.short.cells_of_row.Goals as goal

pub loop-i-init : goal.loop-i-init
loop-i-init c = λ hh mm w. doing_start _ _ w

pub loop-i-preserved : goal.loop-i-preserved
loop-i-preserved c =
    let l = c.loop-i in
    let cell = c.cell in
    λ hh mm w. cell.ensures hh mm (l.invariant hh mm w)

pub returns : goal.returns
returns c =
    let l = c.loop-i in
    let pre = c.requires in
    λ hh mm w. doing_end _ _ pre.s_lt_n.0 (omega arith) (l.invariant hh mm w)
