use Rattle.std.proofs.Common.{◌≡◌, ◌&&◌, drop}
use Rattle.block.specs.Block.{all_zero}
use Rattle.block.proofs.all_zero.Given as goal

abbrev pub invariant-loop-x : goal.invariant-loop-x
invariant-loop-x l = (l.zero && all_zero (drop l.x-index l.s)) ≡ all_zero l.s
