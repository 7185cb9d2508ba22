use mathlib.Core.Path.{sym}
use Rattle.root.specs.Constants.{mu0_bits}
use Rattle.root.proofs.vacuum.mu0.Goals as goal

pub returns : goal.returns
returns c = sym mu0_bits
