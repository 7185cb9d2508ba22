use Rattle.fdtd.proofs.turns.find_spot.Goals as goal

pub returns : goal.returns
returns c =
    let pre = c.requires in
    let row_at = c.row_at in
    record { is = rw (row_at.ensures.0, c.row_at-2.ensures.0, c.row_at-3.ensures.0); ins = pre.s_lt_n.0; int = pre.s_lt_n.1; own = row_at.ensures.1; ons = c.row_at-2.ensures.1; ont = c.row_at-3.ensures.1 }
