use Rattle.std.proofs.Common.{◌≡◌}
use Rattle.codec.specs.Lists.{put}
use Rattle.cells.specs.Cells.{joined}
use Rattle.heads.specs.Numbers.{gh_length}
use Rattle.block.specs.Block.{entry_bytes}
use Rattle.block.proofs.put_entries.Given as goal

abbrev pub invariant-loop-i : goal.invariant-loop-i
invariant-loop-i l = l.b ≡ put l.initial.b gh_length (joined l.i (entry_bytes l.r))
