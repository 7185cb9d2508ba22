use mathlib.Core.Path.{sym}
use Rattle.root.specs.Constants.{eps02019_bits}
use Rattle.root.proofs.vacuum.eps0_2019.Goals as goal

pub returns : goal.returns
returns c = sym eps02019_bits
