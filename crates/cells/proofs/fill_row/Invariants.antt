use Rattle.std.proofs.Common.{◌≡◌, ◌≤◌, max}
use Rattle.cells.specs.Inner.Blocks.{on, set_row}
use Rattle.cells.proofs.fill_row.Given as goal

abbrev pub invariant-loop-i : goal.invariant-loop-i
invariant-loop-i g l = (l.i ≤ max l.i0 l.i-end) × (l.s ≡ on l.at l.nx (set_row l.nx l.i0 l.i l.v) l.initial.s)
