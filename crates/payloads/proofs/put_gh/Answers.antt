use Rattle.payloads.proofs.Written.{head_put}
use Rattle.payloads.proofs.put_gh.Goals as goal

pub returns : goal.returns
returns c =
    let a = c.args in
    head_put a.out.now _ _ a.at a.r _ _ _ c.flag_nums-f.ensures c.kept_region-g.ensures c.kind_num-k.ensures c.requires c.put_plan.ensures c.put_scale.ensures
