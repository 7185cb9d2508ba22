use mathlib.Core.Path.{sym}
use Rattle.root.specs.Constants.{eps0_bits}
use Rattle.root.proofs.vacuum.eps0.Goals as goal

pub returns : goal.returns
returns c = sym eps0_bits
