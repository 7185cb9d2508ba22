use Rattle.tfsf.proofs.Ends.{e_line}
use Rattle.tfsf.proofs.line.update_line_e.Goals as goal

pub returns : goal.returns
returns c =
    let a = c.args in
    e_line a.eps0 a.c0 a.s a.n a.sample a.line.now _ c.requires _ _ _ _ c.line_factor-factor.ensures c.mur_factor-mur.ensures c.move_e.ensures
    c.mur_end.ensures c.mur_end-2.ensures
