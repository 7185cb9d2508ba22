use native.Mathlib.Omega.{arith}
use Rattle.puts.proofs.Placed.{first_ids, then_floats}
use Rattle.puts.proofs.put_cells.Goals as goal

pub returns : goal.returns
returns c =
    let w1 = first_ids _ _ _ _ _ _ c.put_store-p.ensures in
    let w2 = then_floats _ _ _ _ _ _ _ _ _ _ w1 c.put_store-q.ensures (omega (arith, c.requires.0)) in
    let w3 = then_floats _ _ _ _ _ _ _ _ _ _ w2 c.put_store-s.ensures (omega (arith, c.requires.0)) in
    let w4 = then_floats _ _ _ _ _ _ _ _ _ _ w3 c.put_store.ensures (omega (arith, c.requires.0)) in
    (omega (arith, w4.ends), w4.is)
