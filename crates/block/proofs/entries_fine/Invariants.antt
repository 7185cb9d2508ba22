use Rattle.std.proofs.Common.{◌≡◌, true}
use Rattle.grid.specs.Fault.{all_below}
use Rattle.block.specs.Block.{entry_fine}
use Rattle.block.proofs.entries_fine.Given as goal

abbrev pub invariant-loop-i : goal.invariant-loop-i
invariant-loop-i l = all_below (entry_fine l.b) l.i ≡ true
