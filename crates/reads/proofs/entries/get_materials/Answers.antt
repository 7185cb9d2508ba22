use Rattle.std.proofs.Common.{arith}
use Rattle.heads.proofs.Listed.{all_read}
use Rattle.reads.proofs.entries.get_materials.Goals as goal

pub returns : goal.returns
returns c =
    let l = c.loop-i in
    all_read _ l.i _ _ (omega arith) l.invariant.0 l.invariant.1
