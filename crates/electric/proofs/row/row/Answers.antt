use Rattle.std.proofs.Common.{arith}
use Rattle.electric.proofs.Whole.{row_e, row_m}
use Rattle.electric.proofs.row.row.Goals as goal

pub returns : goal.returns
returns c =
    let pre = c.requires in
    let one = c.layer.ensures in
    let two = c.layer-2.ensures in
    record {
      span = row_e _ _ _ _ _ _ _ _ _ _ _ _ _ _ _ _ _ _ _ _ (omega arith) pre.n_bound c.curls.ensures one.curl one.memory two.curl two.memory c.fill_row.ensures;
      two = row_m _ _ _ _ _ _ _ _ _ _ _ _ _ _ _ _ _ _ _ _ (omega arith) pre.n_bound c.curls.ensures one.curl one.memory two.curl two.memory c.fill_row.ensures;
    }
