use Rattle.tfsf.proofs.Ends.{h_line}
use Rattle.tfsf.proofs.line.update_line_h.Goals as goal

pub returns : goal.returns
returns c =
    let a = c.args in
    h_line a.mu0 a.s a.n a.line.now _ c.requires _ c.line_factor-factor.ensures c.move_h.ensures
