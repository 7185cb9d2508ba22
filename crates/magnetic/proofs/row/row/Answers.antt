use Rattle.std.proofs.Common.{arith}
use Rattle.magnetic.proofs.Whole.{row_h, row_m}
use Rattle.magnetic.proofs.row.row.Goals as goal

pub returns : goal.returns
returns c =
    let pre = c.requires in
    let one = c.layer.ensures in
    let two = c.layer-2.ensures in
    record {
      span = row_h _ _ _ _ _ _ _ _ _ _ _ _ _ _ _ _ _ (omega arith) pre.n_bound c.curls.ensures one.curl one.memory two.curl two.memory c.fields.ensures;
      two = row_m _ _ _ _ _ _ _ _ _ _ _ _ _ _ _ _ _ (omega arith) pre.n_bound c.curls.ensures one.curl one.memory two.curl two.memory c.fields.ensures;
    }
