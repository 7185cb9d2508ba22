use Rattle.std.proofs.Common.{rules, ap, ◌∙◌, ◌+◌, slice_set}
use Prim.Native.Nat.{◌+◌}
use native.Mathlib.Omega.{arith}
use Rattle.grid.proofs.Filling.{fill_none, fill_more}
use Rattle.grid.proofs.stores.fill.Goals as goal

pub loop-i-init : goal.loop-i-init
loop-i-init g c = fill_none _ _ c.args.v

pub loop-i-preserved : goal.loop-i-preserved
loop-i-preserved g c =
    let a = c.args in
    let l = c.loop-i in
    ap (λ s. slice_set s (a.at + l.i) a.v) l.invariant ∙ fill_more a.s.now a.at l.i a.v (omega arith)
