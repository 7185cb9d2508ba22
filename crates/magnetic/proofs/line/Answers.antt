use Rattle.magnetic.proofs.Rowwise.{line_spot, spot_next}
use Rattle.magnetic.proofs.line.Goals as goal

pub returns : goal.returns
returns c =
    let pre = c.requires in
    let a = c.args in
    line_spot _ _ pre.fit.laid _ a.x.now.media.now _ _ _ _ _ _ _ _ _ _ _ _ _ pre.s_lt_n.0 pre.s_lt_n.1 _ (spot_next a.x.now.g a.s a.t c.next_of-bs.ensures.0 c.next_of-bt.ensures.0 c.find_spot-p.ensures.is) c.factors.ensures
    c.comp_r.ensures c.comp_s.ensures c.comp_t.ensures
