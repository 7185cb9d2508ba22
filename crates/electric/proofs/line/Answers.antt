use Rattle.electric.proofs.Rowwise.{line_spot, spot_as}
use Rattle.electric.proofs.line.Goals as goal

pub returns : goal.returns
returns c =
    let pre = c.requires in
    let a = c.args in
    line_spot _ _ _ pre.fit.laid _ a.x.now.media.now _ _ _ _ _ _ _ _ _ _ _ _ _ _ pre.s_lt_n.0 pre.s_lt_n.1 _ (spot_as a.x.now.g a.s a.t c.previous_of-bs.ensures.0 c.previous_of-bt.ensures.0 c.find_spot-p.ensures.is) (record { ca = c.weigh.ensures.ca; cb = c.weigh.ensures.cb })
    c.comp_r.ensures c.comp_s.ensures c.comp_t.ensures
