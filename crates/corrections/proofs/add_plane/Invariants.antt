use Rattle.cells.specs.Inner.Blocks.{on, in_blocks}
use Rattle.corrections.specs.Inner.Faces.{add_row, addend}
use Prim.Native.Nat.{◌+◌, ◌*◌}
use mathlib.Core.Path.{◌≡◌}
use Rattle.corrections.proofs.add_plane.Given as goal

abbrev pub invariant-loop-j : goal.invariant-loop-j
invariant-loop-j l = (l.s ≡ on l.q (l.w.ny * l.w.nx) (in_blocks l.w.ny l.w.nx l.f.b.j0 l.j (λ j. add_row l.w.nx l.f.b.i0 l.f.b.i1 (λ i. addend l.w l.f l.media l.x (l.p + j * l.w.nx + i)))) l.initial.s)
