use native.Mathlib.Omega.{arith}
use Rattle.puts.proofs.Placed.{memories_floats, first_floats, then_floats}
use Rattle.puts.proofs.put_layer.Goals as goal

pub returns : goal.returns
returns c =
    let a = c.args in
    let e1 = memories_floats _ _ a.n a.psi_e.now c.requires.1 c.put_memories-p.ensures in
    let e2 = memories_floats _ _ a.n a.psi_h.now c.requires.2 c.put_memories-q.ensures in
    let w1 = first_floats _ _ _ _ _ a.psi_e.now e1 in
    let w2 = then_floats _ _ _ _ _ _ _ _ _ a.psi_h.now w1 e2 (omega (arith, c.requires.0)) in
    let w3 = then_floats _ _ _ _ _ _ _ _ _ _ w2 c.put_store.ensures (omega (arith, c.requires.0)) in
    (omega (arith, w3.ends), w3.is)
