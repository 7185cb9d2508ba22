use Rattle.root.specs.Courant.{courant_limit}
use Rattle.root.proofs.max_stable_dt.Goals as goal

pub returns : goal.returns
unfolding courant_limit
returns c = cc
