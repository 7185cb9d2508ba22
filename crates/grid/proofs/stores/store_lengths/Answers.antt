use mathlib.Core.Path.{refl}
use Rattle.grid.specs.Stores.{store_lengths}
use Rattle.grid.proofs.stores.store_lengths.Goals as goal

pub returns : goal.returns
unfolding store_lengths
returns c = refl
