use Rattle.std.proofs.Common.{◌≡◌, ◌≤◌, ◌*◌, max}
use Rattle.cells.specs.Inner.Blocks.{on, in_blocks, set_row}
use Rattle.cells.proofs.fill_plane.Given as goal

abbrev pub invariant-loop-j : goal.invariant-loop-j
invariant-loop-j g l = (l.j ≤ max l.b.j0 l.j-end) × (l.s ≡ on l.at (l.ny * l.nx) (in_blocks l.ny l.nx l.b.j0 l.j (λ _. set_row l.nx l.b.i0 l.b.i1 l.v)) l.initial.s)
