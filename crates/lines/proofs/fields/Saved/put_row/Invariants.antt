use Prim.Native.Nat.{◌+◌, ◌*◌}
use Rattle.cells.specs.Cells.{joined}
use Rattle.lines.specs.Inner.Places.{Puts}
use Rattle.lines.specs.Inner.Rows.{cell_text}
use Rattle.lines.proofs.fields.Saved.put_row.Given as goal

abbrev pub invariant-loop-i : goal.invariant-loop-i
invariant-loop-i l = Puts (135 * l.i) l.initial.text (joined l.i (λ i. cell_text l.self i l.j l.k (l.m + i))) l.text
