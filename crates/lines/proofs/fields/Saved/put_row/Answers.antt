use native.Mathlib.Omega.{arith}
use Rattle.lines.specs.Inner.Rows.{row_text}
use Rattle.lines.proofs.Written.{turned_none, turned_more, turned_all}
use Rattle.lines.proofs.fields.Saved.put_row.Goals as goal

pub loop-i-init : goal.loop-i-init
loop-i-init c = turned_none 135 _ (omega arith)

pub loop-i-preserved : goal.loop-i-preserved
loop-i-preserved c = turned_more 135 _ _ c.loop-i.invariant c.put_cell.ensures

pub returns : goal.returns
unfolding row_text
returns c = turned_all _ _ _ _ c.loop-i-test.false (omega arith) c.loop-i.invariant
