use Rattle.read_block.proofs.Passing.{unread, reads}
use Rattle.std.proofs.Common.{rules, refl, ◌≡◌}
use Rattle.refusals.specs.Refusals.{code}
use Rattle.grid.specs.Fault.{bad_study, first}
use Rattle.block.specs.Block.{block_fine}
use Rattle.on_block.proofs.saving.save.Goals as goal

pub returns-in_err-r : goal.returns-in_err-r
returns-in_err-r c =
    let told : code c.from_residual.result ≡ first (block_fine c.args.b.now) bad_study 0 = search rules in
    unread _ _ _ _ (search rules) told refl

pub returns : goal.returns
returns c =
    let own = c.in_ok-r.ensures.record in
    reads _ _ _ own.1 own.0 refl c.save.ensures
