use mathlib.Core.Path.{ap}
use native.Mathlib.Omega.{arith}
use Rattle.codec.specs.Bytes.{unle}
use Rattle.codec.proofs.Lists.{part_one}
use Rattle.codec.proofs.numbers.get_u8.Goals as goal

pub returns : goal.returns
unfolding unle
returns c = let a = c.args in omega (arith, ap unle (part_one a.s.now a.at 0 (omega arith)))
