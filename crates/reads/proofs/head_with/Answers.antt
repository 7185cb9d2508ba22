use Rattle.reads.proofs.Read.{head_read}
use Rattle.reads.proofs.head_with.Goals as goal

pub returns : goal.returns
returns c = let a = c.args in head_read a.s.now a.at _ _ _ _ _ _ _ c.twos_at-n.ensures c.bytes_at-f.ensures c.bytes_at-c.ensures c.twos_at-g.ensures c.floats_at-x.ensures c.get_u32-steps.ensures
