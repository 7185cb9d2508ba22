use Rattle.cpml.proofs.Memories.{memory_is}
use Rattle.cpml.proofs.memory.psi.Goals as goal

pub returns-then-p : goal.returns-then-p
returns-then-p c = memory_is _ _ _ _ _ c.place-p.ensures c.if-p.true

pub returns : goal.returns
returns c = memory_is _ _ _ _ _ c.place-p.ensures c.if-p.false
