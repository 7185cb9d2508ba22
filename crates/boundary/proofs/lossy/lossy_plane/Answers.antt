use Rattle.std.proofs.Common.{arith}
use Rattle.cells.specs.Reading.{block_end, length_row}
use Rattle.cells.proofs.Written.{joined_none, joined_more, joined_all}
use Rattle.boundary.proofs.lossy.lossy_plane.Goals as goal

pub lossy_row-requires : goal.lossy_row-requires
lossy_row-requires c =
    let a = c.args in
    let row_in = block_end c.loop-j.j a.ny a.nx (omega arith) in omega arith

pub loop-j-init : goal.loop-j-init
loop-j-init c = joined_none _ _ _

pub loop-j-preserved : goal.loop-j-preserved
loop-j-preserved c =
    let a = c.args in
    let row_in = block_end c.loop-j.j a.ny a.nx (omega arith) in
    joined_more _ _ _ _ _ a.nx _ (λ b. length_row _ _) (omega arith) c.loop-j.invariant c.lossy_row.ensures

pub returns : goal.returns
returns c = joined_all _ _ _ c.loop-j.j _ _ c.loop-j.invariant (omega arith)
