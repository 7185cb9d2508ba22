use Rattle.cells.specs.Cells.{joined}
use Rattle.heads.specs.Numbers.{ml_of}
use mathlib.Core.Path.{refl}
use Rattle.heads.proofs.ml_of.Goals as goal

pub returns : goal.returns
unfolding ml_of joined
returns c = rw (c.float_of-3.ensures, c.float_of-2.ensures, c.float_of.ensures, c.slot_of-d.ensures, c.slot_of-c.ensures, c.slot_of-b.ensures, c.slot_of-a.ensures) refl
