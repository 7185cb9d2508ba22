use Rattle.payloads.proofs.Written.{scale_put}
use Rattle.payloads.proofs.put_scale.Goals as goal

pub returns : goal.returns
returns c =
    let a = c.args in
    scale_put a.out.now _ _ _ _ a.at a.g a.spacings a.clock a.constants _ c.float_nums.ensures c.requires c.put_corners.ensures c.put_floats.ensures c.put_u32.ensures c.put_byte.ensures
