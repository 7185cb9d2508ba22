use Prim.Native.Nat.{◌+◌, ◌*◌}
use Rattle.cells.specs.Cells.{joined}
use Rattle.lines.specs.Inner.Places.{Puts}
use Rattle.lines.specs.Inner.Rows.{row_text}
use Rattle.lines.proofs.fields.Saved.put_plane.Given as goal

abbrev pub invariant-loop-j : goal.invariant-loop-j
invariant-loop-j l =
    Puts ((135 * l.self.nx) * l.j) l.initial.text (joined l.j (λ j. row_text l.self j l.k (l.m + l.self.nx * j))) l.text
