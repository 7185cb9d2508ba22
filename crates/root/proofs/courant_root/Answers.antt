use Rattle.root.specs.Courant.{courant_root}
use Rattle.root.proofs.courant_root.Goals as goal

pub returns : goal.returns
unfolding courant_root
returns c = c.root.ensures.is
