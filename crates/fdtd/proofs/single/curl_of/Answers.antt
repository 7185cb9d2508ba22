use Rattle.fdtd.proofs.Singles.{curl_both, memory_both}
use Rattle.fdtd.proofs.single.curl_of.Goals as goal

pub returns : goal.returns
returns c =
    let a = c.args in
    let pre = c.requires in
    let one = c.join_layer-u in
    let two = c.join_layer in
    record { value = curl_both a.bon a.con a.kb a.kc a.x a.y _ _ _ one.ensures.value two.ensures.value (one.ensures.lone.over a.m2 pre.0); both = memory_both a.con a.kc a.y one.ensures.lone two.ensures.lone pre.0 }
