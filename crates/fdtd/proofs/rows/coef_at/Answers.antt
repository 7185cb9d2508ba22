use Rattle.fdtd.specs.Inner.Rows.{k_of}
use Rattle.fdtd.proofs.rows.coef_at.Goals as goal

pub returns : goal.returns
unfolding k_of
returns c = rw (c.pick.ensures, c.pick-2.ensures, c.pick-3.ensures)
