use mathlib.Core.Path.{ap}
use lib.Ieee.{Float}
use Rattle.root.specs.Rounded.{◌⊗◌}
use Rattle.corrections.proofs.added_h.Goals as goal

pub returns : goal.returns
returns c = ap (λ (y : Float). y ⊗ c.args.ex) c.signed.ensures
