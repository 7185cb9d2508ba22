use Prim.Native.Nat.{◌*◌}
use native.Mathlib.Omega.{arith}
use Rattle.lines.specs.Inner.Rows.{plane_text}
use Rattle.lines.proofs.Written.{turned_none, turned_more, turned_all}
use Rattle.lines.proofs.fields.Saved.put_plane.Goals as goal

pub loop-j-init : goal.loop-j-init
loop-j-init c = turned_none (135 * c.args.self.now.nx) _ (omega arith)

pub loop-j-preserved : goal.loop-j-preserved
loop-j-preserved c = turned_more _ _ _ c.loop-j.invariant c.put_row.ensures

pub returns : goal.returns
unfolding plane_text
returns c = turned_all _ _ _ _ c.loop-j-test.false (omega arith) c.loop-j.invariant
