use mathlib.Core.List.{List}
use Prim.Native.Nat.{◌+◌, ◌*◌}
use lib.Ieee.{Float}
use Rattle.electric.specs.Inner.Swept.{Swept}
use Rattle.electric.specs.Inner.Celled.{Sweeping}
use Rattle.electric.proofs.short.cells_of_row.Given as goal

abbrev pub invariant-loop-i : goal.invariant-loop-i
invariant-loop-i l =
    (ee mm : List Float) → Swept l.x.eps0 l.x.w l.x.g l.x.h.now l.x.media.now l.x.tab.now l.x.poles.now ee mm (l.s + l.t * l.x.g.s.n) l.initial.e l.initial.mem → Sweeping l.x.eps0 l.x.w l.x.g l.x.h.now l.x.media.now l.x.tab.now l.x.poles.now ee mm l.s l.t l.i l.e l.mem
