use Rattle.std.proofs.Common.{◌≡◌, replicate}
use Rattle.codec.specs.Lists.{put}
use Rattle.block.proofs.put_zeros.Given as goal

abbrev pub invariant-loop-i : goal.invariant-loop-i
invariant-loop-i l = l.b ≡ put l.initial.b l.at (replicate l.i 0)
