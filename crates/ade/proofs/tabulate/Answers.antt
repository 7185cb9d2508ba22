use Rattle.std.proofs.Common.{◌≡◌, ℕ, ◌∙◌, subst, arith, length-set}
use Rattle.ade.proofs.Tables.{table_more}
use Rattle.ade.specs.Inner.Runs.{Table}
use Rattle.ade.proofs.tabulate.Goals as goal

pub loop-i-preserved : goal.loop-i-preserved
loop-i-preserved c =
    let l = c.loop-i in
    (length-set l.table _ _ ∙ l.invariant.0, table_more c.args.eps0 c.args.r l.i _ l.table (omega arith) l.invariant.1 c.stepped_of.ensures)

pub returns : goal.returns
returns c =
    let a = c.args in
    let l = c.loop-i in
    let e : l.i ≡ a.r.material_count = omega arith in
    subst (λ (k : ℕ). Table a.eps0 a.r k l.table) e l.invariant.1
