use Rattle.std.proofs.Common.{◌-◌, ◌≤◌}
use Rattle.ade.specs.Inner.Runs.{Changed, by_cell}
use Rattle.ade.proofs.advance_cells.Given as goal

abbrev pub invariant-loop-a : goal.invariant-loop-a
invariant-loop-a l = (l.a ≤ l.n) × Changed l.n 0 l.a (by_cell l.table l.ids l.e l.n l.slots) l.initial.poles l.poles

abbrev pub decreases-loop-a : goal.decreases-loop-a
decreases-loop-a l = l.n - l.a
