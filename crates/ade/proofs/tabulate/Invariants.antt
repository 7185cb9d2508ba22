use Rattle.std.proofs.Common.{◌≡◌, length}
use Rattle.ade.specs.Inner.Runs.{Table}
use Rattle.ade.proofs.tabulate.Given as goal

abbrev pub invariant-loop-i : goal.invariant-loop-i
invariant-loop-i l = (length l.table ≡ 16) × Table l.eps0 l.r l.i l.table
