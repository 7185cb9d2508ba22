use Rattle.on_block.proofs.Passing.{clock_well}
use Rattle.on_block.proofs.Vacuum.{run_vacuum}
use Rattle.on_block.proofs.steps.run.Goals as goal

pub returns : goal.returns
returns c =
    let own = c.in_ok-r.ensures.record in
    clock_well _ _ _ own.0 own.1 c.keep_clock.ensures.fault (run_vacuum _ _ c.chosen-v.ensures _ _ c.run-moved.ensures) (c.keep_clock.ensures.block _)
