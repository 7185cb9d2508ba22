use Rattle.std.proofs.Common.{rules, ◌≡◌}
use Rattle.refusals.specs.Refusals.{code, number}
use Rattle.read_block.proofs.Passing.{answering_of, answered_anew}
use Rattle.on_block.proofs.Passing.{stays, well}
use Rattle.on_block.proofs.library.add_material.Goals as goal

pub returns-in_err-r-2 : goal.returns-in_err-r-2
returns-in_err-r-2 c =
    let own = c.in_ok-r.ensures.record in
    let told : code c.from_residual-in_err-r-2.result ≡ number c.in_err-r-2.field-0.0 = search rules in
    stays _ _ _ own.0 own.1 _ (search rules) told (answering_of c.args.id.now c.in_err-r-2.ensures c.answer.ensures)

pub returns : goal.returns
returns c =
    let own = c.in_ok-r.ensures.record in
    well _ _ _ own.0 own.1 c.keep.ensures.fault
    (answering_of c.args.id.now c.in_ok-r-2.ensures (answered_anew _ _ _ c.answer.ensures c.answer-2.ensures)) (c.keep.ensures.block c.in_ok-r.r)
