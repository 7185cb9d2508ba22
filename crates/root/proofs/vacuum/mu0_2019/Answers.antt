use mathlib.Core.Path.{sym}
use Rattle.root.specs.Constants.{mu02019_bits}
use Rattle.root.proofs.vacuum.mu0_2019.Goals as goal

pub returns : goal.returns
returns c = sym mu02019_bits
