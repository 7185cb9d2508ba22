use Rattle.std.proofs.Common.{ap, ◌∙◌, ◌+◌, ◌*◌, arith}
use Rattle.cells.specs.Inner.Blocks.{on, set_row, set_plane}
use Rattle.cells.proofs.Sweeps.{sweep_none, sweep_more, sweep_end, cut_same}
use Rattle.cells.proofs.Pointwise.{row_keeps}
use Rattle.cells.proofs.fill_plane.Goals as goal

pub loop-j-init : goal.loop-j-init
loop-j-init g c =
    let a = c.args in
    let b = a.b in
    (omega arith, sweep_none a.at a.ny a.nx b.j0 _ (row_keeps a.v a.nx b.i0 b.i1) a.s.now c.requires)

pub loop-j-preserved : goal.loop-j-preserved
loop-j-preserved g c =
    let a = c.args in
    let b = a.b in
    let l = c.loop-j in (
      omega arith,
      c.fill_row.ensures
          ∙ ap (λ s. on (a.at + l.j * a.nx) a.nx (set_row a.nx b.i0 b.i1 a.v) s) l.invariant.1
          ∙ sweep_more a.at a.ny a.nx b.j0 _ (row_keeps a.v a.nx b.i0 b.i1) a.s.now c.requires l.j l.auto.j (omega arith),
    )

pub returns : goal.returns
unfolding set_plane
returns g c =
    let a = c.args in
    let b = a.b in
    let l = c.loop-j in
    l.invariant.1
    ∙ sweep_end a.at a.ny a.nx b.j0 _ (row_keeps a.v a.nx b.i0 b.i1) a.s.now c.requires _ _ (cut_same b.j0 b.j1 a.ny l.j (omega arith))
