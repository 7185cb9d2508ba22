use Rattle.read_block.proofs.Passing.{unread, reads, answering_of, answered_anew}
use Rattle.std.proofs.Common.{rules, refl, ◌≡◌}
use Rattle.refusals.specs.Refusals.{code, number}
use Rattle.grid.specs.Fault.{bad_study, first}
use Rattle.block.specs.Block.{block_fine}
use Rattle.on_block.proofs.saving.save_length.Goals as goal

pub returns-in_err-r : goal.returns-in_err-r
returns-in_err-r c =
    let told : code c.from_residual.result ≡ first (block_fine c.args.b.now) bad_study 0 = search rules in
    unread _ _ _ _ (search rules) told c.answer.ensures

pub returns-in_err-bytes : goal.returns-in_err-bytes
returns-in_err-bytes c =
    let own = c.in_ok-r.ensures.record in
    let told : code c.from_residual-in_err-bytes.result ≡ number c.in_err-bytes.field-0.0 = search rules in
    reads _ _ _ own.1 own.0 told (answering_of c.args.length.now c.in_err-bytes.ensures c.answer.ensures)

pub returns : goal.returns
returns c =
    let own = c.in_ok-r.ensures.record in
    reads _ _ _ own.1 own.0 refl (answering_of c.args.length.now c.in_ok-bytes.ensures (answered_anew _ _ _ c.answer.ensures c.answer-2.ensures))
