use Rattle.std.proofs.Common.{◌*◌, arith}
use Rattle.cells.specs.Cells.{cellwise}
use Rattle.cells.specs.Reading.{block_end, length_row, length_joined}
use Rattle.cells.proofs.Written.{joined_none, joined_more, joined_all}
use Rattle.boundary.proofs.Graded.{graded_cells}
use Rattle.boundary.proofs.lossy.graded.Goals as goal

pub lossy_plane-requires : goal.lossy_plane-requires
lossy_plane-requires c =
    let r = c.args.r in
    let plane_in = block_end c.loop-k.k r.nz (r.ny * r.nx) (omega arith) in (omega arith, omega arith, omega arith)

pub loop-k-init : goal.loop-k-init
loop-k-init c = joined_none _ _ _

pub loop-k-preserved : goal.loop-k-preserved
loop-k-preserved c =
    let r = c.args.r in
    let plane_in = block_end c.loop-k.k r.nz (r.ny * r.nx) (omega arith) in
    joined_more _ _ _ _ _ (r.ny * r.nx) _ (λ b. length_joined _ _ _ (λ j _. length_row _ _)) (omega arith) c.loop-k.invariant c.lossy_plane.ensures

pub returns : goal.returns
unfolding cellwise
returns c =
    let a = c.args in
    graded_cells a.r.nx a.r.ny a.r.nz a.tx a.ty a.tz a.a.order a.a.sigma_max _ _ _ a.media.now _ _
    c.fill_wall.ensures c.fill_wall-2.ensures c.fill_wall-3.ensures (joined_all _ _ _ c.loop-k.k _ _ c.loop-k.invariant (omega arith))
