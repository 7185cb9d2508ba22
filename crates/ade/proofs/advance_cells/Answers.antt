use Rattle.std.proofs.Common.{◌≡◌, ℕ, subst, arith}
use Rattle.ade.specs.Inner.Runs.{Changed, by_cell}
use Rattle.ade.proofs.advance_cells.Goals as goal

pub returns : goal.returns
returns c =
    let a = c.args in
    let l = c.loop-a in
    let q : l.a ≡ a.n = omega arith in
    subst (λ (z : ℕ). Changed a.n 0 z (by_cell a.table.now a.ids.now a.e.now a.n a.slots) a.poles.now l.poles) q l.invariant.1
