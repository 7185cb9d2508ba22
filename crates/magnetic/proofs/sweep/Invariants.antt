use Rattle.magnetic.specs.Inner.Swept.{Swept}
use lib.Ieee.{Float}
use mathlib.Core.List.{List}
use Prim.Native.Nat.{◌*◌, ◌+◌}
use Rattle.magnetic.proofs.sweep.Given as goal

abbrev pub invariant-loop-s : goal.invariant-loop-s
invariant-loop-s l =
    (hh mm : List Float) → Swept l.x.mu0 l.x.g l.x.e.now l.x.media.now l.x.tab.now hh mm (l.t * l.x.g.s.n) l.initial.h l.initial.mem → Swept l.x.mu0 l.x.g l.x.e.now l.x.media.now l.x.tab.now hh mm (l.s + l.t * l.x.g.s.n) l.h l.mem

abbrev pub invariant-loop-t : goal.invariant-loop-t
invariant-loop-t l = Swept l.x.mu0 l.x.g l.x.e.now l.x.media.now l.x.tab.now l.initial.h l.initial.mem (l.t * l.x.g.s.n) l.h l.mem
