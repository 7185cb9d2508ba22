use Rattle.std.proofs.Common.{ap, ◌∙◌, ◌+◌, arith, slice_set}
use Rattle.cells.proofs.Sweeps.{row_none, row_more, row_end, cut_same}
use Rattle.cells.proofs.fill_row.Goals as goal

pub loop-i-init : goal.loop-i-init
loop-i-init g c =
    let a = c.args in
    (omega arith, row_none a.at a.nx a.i0 a.v a.s.now c.requires)

pub loop-i-preserved : goal.loop-i-preserved
loop-i-preserved g c =
    let a = c.args in
    let l = c.loop-i in
    (omega arith, ap (λ s. slice_set s (a.at + l.i) a.v) l.invariant.1 ∙ row_more a.at a.nx a.i0 a.v a.s.now c.requires l.i l.auto.i (omega arith))

pub returns : goal.returns
returns g c =
    let a = c.args in
    let l = c.loop-i in
    l.invariant.1 ∙ row_end a.at a.nx a.i0 a.v a.s.now c.requires _ _ (cut_same a.i0 a.i1 a.nx l.i (omega arith))
