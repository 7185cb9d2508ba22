use Rattle.payloads.proofs.Written.{material_put}
use Rattle.std.proofs.Common.{rules}
use Rattle.payloads.proofs.put_ml.Goals as goal

pub returns : goal.returns
returns c =
    let a = c.args in
    let m = a.m in
    material_put m _ (search rules) a.out.now _ _ _ _ _ a.at _ _ _ _ c.requires c.slot_nums.ensures c.slot_nums-2.ensures c.slot_nums-3.ensures c.slot_nums-4.ensures c.put_front.ensures c.put_slot.ensures c.put_slot-2.ensures c.put_slot-3.ensures c.put_slot-4.ensures
