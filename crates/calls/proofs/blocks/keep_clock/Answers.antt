use Rattle.std.proofs.Common.{rules}
use Rattle.calls.specs.Blocks.{clock_after}
use Rattle.calls.proofs.Kept.{clock_old}
use Rattle.calls.proofs.blocks.keep_clock.Goals as goal

pub returns-in_err-called-clause-block : goal.returns-in_err-called-clause-block
returns-in_err-called-clause-block c _ = clock_old c.args.called _ _ (search rules)

pub returns-clause-block : goal.returns-clause-block
unfolding clock_after
returns-clause-block c _ = rw (c.in_ok-called.was) c.put_clock.ensures
