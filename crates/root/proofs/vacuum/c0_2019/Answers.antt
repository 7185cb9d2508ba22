use mathlib.Core.Path.{sym}
use Rattle.root.specs.Constants.{c02019_bits}
use Rattle.root.proofs.vacuum.c0_2019.Goals as goal

pub returns : goal.returns
returns c = sym c02019_bits
