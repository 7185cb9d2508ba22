use Rattle.electric.specs.Inner.Swept.{Swept}
use lib.Ieee.{Float}
use mathlib.Core.List.{List}
use Prim.Native.Nat.{◌*◌, ◌+◌}
use Rattle.electric.proofs.sweep.Given as goal

abbrev pub invariant-loop-s : goal.invariant-loop-s
invariant-loop-s l =
    (ee mm : List Float) → Swept l.x.eps0 l.x.w l.x.g l.x.h.now l.x.media.now l.x.tab.now l.x.poles.now ee mm (l.t * l.x.g.s.n) l.initial.e l.initial.mem → Swept l.x.eps0 l.x.w l.x.g l.x.h.now l.x.media.now l.x.tab.now l.x.poles.now ee mm (l.s + l.t * l.x.g.s.n) l.e l.mem

abbrev pub invariant-loop-t : goal.invariant-loop-t
invariant-loop-t l = Swept l.x.eps0 l.x.w l.x.g l.x.h.now l.x.media.now l.x.tab.now l.x.poles.now l.initial.e l.initial.mem (l.t * l.x.g.s.n) l.e l.mem
