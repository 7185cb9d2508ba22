use Rattle.root.specs.Courant.{stable}
use Rattle.root.proofs.is_stable.Goals as goal

pub returns : goal.returns
unfolding stable
returns c = cc
