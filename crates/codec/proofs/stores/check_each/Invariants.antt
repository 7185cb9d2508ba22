use Rattle.std.proofs.Common.{◌≡◌, true, drop}
use Rattle.codec.specs.Bytes.{all_fine}
use Rattle.codec.proofs.stores.check_each.Given as goal

abbrev pub invariant-loop-i : goal.invariant-loop-i
invariant-loop-i l = all_fine l.i (drop l.at l.s) ≡ true
