use Rattle.std.proofs.Common.{◌≡◌, ◌≤◌, ◌*◌, max}
use Rattle.cells.specs.Inner.Blocks.{on, in_blocks, set_plane}
use Rattle.cells.proofs.fill_box.Given as goal

abbrev pub invariant-loop-k : goal.invariant-loop-k
invariant-loop-k g l = (l.k ≤ max l.b.k0 l.k-end) × (l.s ≡ on l.at (l.nz * (l.ny * l.nx)) (in_blocks l.nz (l.ny * l.nx) l.b.k0 l.k (λ _. set_plane l.nx l.ny l.b l.v)) l.initial.s)
