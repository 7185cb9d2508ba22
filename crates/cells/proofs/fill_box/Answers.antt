use Rattle.std.proofs.Common.{ap, ◌∙◌, ◌+◌, ◌*◌, arith}
use Rattle.cells.specs.Inner.Blocks.{on, set_plane, set_box}
use Rattle.cells.proofs.Sweeps.{sweep_none, sweep_more, sweep_end, cut_same}
use Rattle.cells.proofs.Pointwise.{plane_keeps}
use Rattle.cells.proofs.fill_box.Goals as goal

pub loop-k-init : goal.loop-k-init
loop-k-init g c =
    let a = c.args in
    (omega arith, sweep_none a.at a.nz (a.ny * a.nx) a.b.k0 _ (plane_keeps a.v a.nx a.ny a.b) a.s.now c.requires.0)

pub loop-k-preserved : goal.loop-k-preserved
loop-k-preserved g c =
    let a = c.args in
    let l = c.loop-k in (
      omega arith,
      c.fill_plane.ensures
          ∙ ap (λ s. on (a.at + l.k * (a.ny * a.nx)) (a.ny * a.nx) (set_plane a.nx a.ny a.b a.v) s) l.invariant.1
          ∙ sweep_more a.at a.nz (a.ny * a.nx) a.b.k0 _ (plane_keeps a.v a.nx a.ny a.b) a.s.now c.requires.0 l.k l.auto.k (omega arith),
    )

pub returns : goal.returns
unfolding set_box
returns g c =
    let a = c.args in
    let l = c.loop-k in
    l.invariant.1
    ∙ sweep_end a.at a.nz (a.ny * a.nx) a.b.k0 _ (plane_keeps a.v a.nx a.ny a.b) a.s.now c.requires.0 _ _ (cut_same a.b.k0 a.b.k1 a.nz l.k (omega arith))
