use Rattle.std.proofs.Common.{rules, refl, ◌≡◌}
use Rattle.refusals.specs.Refusals.{code}
use Rattle.grid.proofs.Settled.{own_fault, later_fault}
use Rattle.format.specs.Rewind.{read_record, bytes_fault}
use Rattle.on_block.proofs.Passing.{rewind_ill, rewind_well}
use Rattle.on_block.proofs.saving.rewind.Goals as goal

pub returns-in_err-bytes_fault : goal.returns-in_err-bytes_fault
returns-in_err-bytes_fault c =
    let told : code c.from_residual.result ≡ bytes_fault c.args.save.now = search rules in
    rewind_ill _ _ _ c.if-b-ne-BLOCK_LENGTH.true (own_fault _ _ (search rules) told)

pub returns-then-b-ne-BLOCK_LENGTH : goal.returns-then-b-ne-BLOCK_LENGTH
returns-then-b-ne-BLOCK_LENGTH c = rewind_ill _ _ _ c.if-b-ne-BLOCK_LENGTH.true (later_fault c.in_ok-bytes_fault.ensures refl)

pub returns : goal.returns
returns c =
    let standing = read_record c.args.save.now in
    rewind_well _ _ _ standing c.if-b-ne-BLOCK_LENGTH.false c.keep.ensures.fault (c.rewind-read.ensures standing) (c.keep.ensures.block standing)
