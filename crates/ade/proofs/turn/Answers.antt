use Rattle.ade.specs.Inner.Runs.{store_moved}
use Rattle.ade.proofs.turn.Goals as goal

pub returns : goal.returns
unfolding store_moved
returns c = cc
