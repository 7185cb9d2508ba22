use native.Mathlib.Omega.{arith}
use Rattle.codec.proofs.Bytes.{get_halves}
use Rattle.codec.proofs.numbers.get_u64.Goals as goal

pub returns : goal.returns
returns c =
    let a = c.args in
    omega (arith, get_halves 4 4 a.s.now a.at (omega arith))
