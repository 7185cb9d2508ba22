use Rattle.std.proofs.Common.{rules, ◌≡◌}
use Rattle.refusals.specs.Refusals.{code, number}
use Rattle.read_block.proofs.Passing.{answered_anew}
use Rattle.on_block.proofs.Passing.{stays, well, telling_of}
use Rattle.on_block.proofs.library.put_box.Goals as goal

pub returns-in_err-count : goal.returns-in_err-count
returns-in_err-count c =
    let own = c.in_ok-r.ensures.record in
    let told : code c.from_residual-in_err-count.result ≡ number c.in_err-count.field-0.0 = search rules in
    stays _ _ _ own.0 own.1 _ (search rules) told (telling_of _ _ _ c.args.cells.now c.in_err-count.ensures c.put_asked-what.ensures c.answer.ensures)

pub returns : goal.returns
returns c =
    let own = c.in_ok-r.ensures.record in
    well _ _ _ own.0 own.1 c.keep.ensures.fault
    (telling_of _ _ _ c.args.cells.now c.in_ok-count.ensures c.put_asked-what.ensures (answered_anew _ _ _ c.answer.ensures c.answer-2.ensures))
    (c.keep.ensures.block c.in_ok-r.r)
