use Rattle.std.proofs.Common.{rules}
use Rattle.calls.specs.Blocks.{block_after}
use Rattle.calls.proofs.Kept.{kept_old}
use Rattle.calls.proofs.blocks.keep.Goals as goal

pub returns-in_err-called-clause-block : goal.returns-in_err-called-clause-block
returns-in_err-called-clause-block c _ = kept_old c.args.called _ _ (search rules)

pub returns-clause-block : goal.returns-clause-block
unfolding block_after
returns-clause-block c _ = rw (c.in_ok-called.was) c.put_record.ensures
