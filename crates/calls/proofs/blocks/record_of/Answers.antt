use Rattle.std.proofs.Common.{rules, ◌≡◌, true}
use Rattle.block.specs.Block.{block_fine}
use Rattle.block.proofs.Turns.{block_long}
use Rattle.calls.proofs.blocks.record_of.Goals as goal

pub returns-clause-record : goal.returns-clause-record
returns-clause-record c =
    let fine : block_fine c.args.b.now ≡ true = search rules in
    (c.get_record.ensures, fine, block_long _ fine)
