use Prim.Native.Nat.{◌+◌, ◌*◌}
use native.Mathlib.Omega.{arith}
use mathlib.Core.Path.{ap, ◌∙◌}
use mathlib.Core.Bool.{cond}
use Rattle.codec.specs.Lists.{put}
use Rattle.codec.specs.Bytes.{floats_bytes}
use Rattle.cpml.specs.declared.Psi.{Psi}
use Rattle.cpml.specs.Memory.{memory_of}
use Rattle.cpml.proofs.Memories.{part_in}
use Rattle.puts.proofs.Placed.{memories_none, memories_more, memories_all}
use Rattle.puts.proofs.put_six.Goals as goal

pub overflow_mul-k : goal.overflow_mul-k
overflow_mul-k c = omega (arith, part_in c.loop-k.k c.args.n (omega arith))

pub overflow_mul-k-in-loop-k : goal.overflow_mul-k-in-loop-k
overflow_mul-k-in-loop-k c = omega (arith, part_in c.loop-k.k c.args.n (omega arith))

pub overflow_add-at : goal.overflow_add-at
overflow_add-at c = omega (arith, part_in c.loop-k.k c.args.n (omega arith))

pub put_memory-requires : goal.put_memory-requires
put_memory-requires c =
    let l = c.loop-k in
    (omega (arith, part_in l.k c.args.n (omega arith), c.requires.0), c.requires.1, c.requires.2)

pub loop-k-preserved : goal.loop-k-preserved
loop-k-preserved c =
    let l = c.loop-k in
    let a = c.args in
    let w = c.put_memory in
    memories_more a.out.now l.out w.new.out a.at l.k a.n a.electric a.psi_e.now a.psi_h.now c.requires.1 c.requires.2 c.loop-k-test.true c.requires.0 l.invariant
    (w.ensures ∙ ap (λ (p : Psi). put l.out (a.at + 8 * (l.k * a.n)) (floats_bytes (memory_of p a.psi_e.now a.psi_h.now a.n))) c.in_order-which.ensures)

pub returns : goal.returns
returns c =
    let l = c.loop-k in
    let a = c.args in
    memories_all a.out.now l.out a.at l.k a.n a.electric a.psi_e.now a.psi_h.now c.requires.1 c.requires.2 (omega arith) l.invariant

pub loop-k-init : goal.loop-k-init
loop-k-init c = memories_none _ _ c.args.n (cond c.args.electric c.args.psi_e.now c.args.psi_h.now)
