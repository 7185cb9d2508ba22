use Rattle.cells.specs.Inner.Blocks.{on}
use Rattle.corrections.specs.Inner.Faces.{add_row, addend}
use Prim.Native.Nat.{◌+◌}
use mathlib.Core.Path.{◌≡◌}
use Rattle.corrections.proofs.add_row.Given as goal

abbrev pub invariant-loop-i : goal.invariant-loop-i
invariant-loop-i l = (l.s ≡ on l.q l.w.nx (add_row l.w.nx l.f.b.i0 l.i (λ i. addend l.w l.f l.media l.x (l.p + i))) l.initial.s)
