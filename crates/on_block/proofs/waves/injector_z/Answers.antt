use Rattle.on_block.proofs.Passing.{well}
use Rattle.on_block.proofs.waves.injector_z.Goals as goal

pub returns : goal.returns
returns c =
    let own = c.in_ok-r.ensures.record in
    well _ _ _ own.0 own.1 c.keep.ensures.fault c.injector_z.ensures (c.keep.ensures.block _)
