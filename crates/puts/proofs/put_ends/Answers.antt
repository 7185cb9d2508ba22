use native.Mathlib.Omega.{arith}
use Rattle.puts.proofs.Placed.{first_floats, then_floats}
use Rattle.puts.proofs.put_ends.Goals as goal

pub returns : goal.returns
returns c =
    let w1 = first_floats _ _ _ _ _ _ c.put_store-p.ensures in
    (then_floats _ _ _ _ _ _ _ _ _ _ w1 c.put_store.ensures (omega (arith, c.requires.0))).is
