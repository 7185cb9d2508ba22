use mathlib.Core.Path.{sym}
use Rattle.root.specs.Constants.{c0_bits}
use Rattle.root.proofs.vacuum.c0.Goals as goal

pub returns : goal.returns
returns c = sym c0_bits
