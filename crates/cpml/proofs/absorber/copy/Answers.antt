use Rattle.std.proofs.Common.{rules, ap, ◌∙◌, ◌+◌, slice_set, slice_index_or}
use native.Mathlib.Omega.{arith}
use lib.Ieee.{nan}
use Rattle.cpml.proofs.Tables.{copy_none, copy_more}
use Rattle.cpml.proofs.absorber.copy.Goals as goal

pub loop-i-init : goal.loop-i-init
loop-i-init c = copy_none _ c.args.given.now c.args.at

pub loop-i-preserved : goal.loop-i-preserved
loop-i-preserved c =
    let a = c.args in
    let l = c.loop-i in
    ap (λ s. slice_set s (a.at + l.i) (slice_index_or a.given.now (a.at + l.i) nan)) l.invariant ∙ copy_more a.tables.now a.given.now a.at l.i nan (omega arith) (omega arith)
