use Prim.Native.Nat.{◌*◌}
use native.Mathlib.Omega.{arith}
use Rattle.lines.specs.Inner.Rows.{grid_text}
use Rattle.lines.proofs.Written.{turned_none, turned_more, turned_all}
use Rattle.lines.proofs.fields.Saved.put_grid.Goals as goal

pub loop-k-init : goal.loop-k-init
loop-k-init c = turned_none (135 * c.args.self.now.nx * c.args.self.now.ny) _ (omega arith)

pub loop-k-preserved : goal.loop-k-preserved
loop-k-preserved c = turned_more _ _ _ c.loop-k.invariant c.put_plane.ensures

pub returns : goal.returns
unfolding grid_text
returns c = turned_all _ _ _ _ c.loop-k-test.false (omega arith) c.loop-k.invariant
