use Rattle.std.proofs.Common.{◌≡◌, replicate}
use Rattle.codec.specs.Lists.{put}
use Rattle.grid.proofs.stores.fill.Given as goal

abbrev pub invariant-loop-i : goal.invariant-loop-i
invariant-loop-i g l = l.s ≡ put l.initial.s l.at (replicate l.i l.v)
