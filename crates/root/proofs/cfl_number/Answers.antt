use Rattle.root.specs.Courant.{courant_number}
use Rattle.root.proofs.cfl_number.Goals as goal

pub returns : goal.returns
unfolding courant_number
returns c = cc
