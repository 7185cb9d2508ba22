use Prim.Native.Nat.{◌*◌}
use Rattle.cells.specs.Cells.{joined}
use Rattle.lines.specs.Inner.Places.{Puts}
use Rattle.lines.specs.Inner.Rows.{plane_text}
use Rattle.lines.proofs.fields.Saved.put_grid.Given as goal

abbrev pub invariant-loop-k : goal.invariant-loop-k
invariant-loop-k l =
    let s = l.self in
    Puts ((135 * s.nx * s.ny) * l.k) l.initial.text (joined l.k (λ k. plane_text s k (s.nx * s.ny * k))) l.text
