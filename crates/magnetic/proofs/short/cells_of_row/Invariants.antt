use mathlib.Core.List.{List}
use Prim.Native.Nat.{◌+◌, ◌*◌}
use lib.Ieee.{Float}
use Rattle.magnetic.specs.Inner.Swept.{Swept}
use Rattle.magnetic.specs.Inner.Celled.{Sweeping}
use Rattle.magnetic.proofs.short.cells_of_row.Given as goal

abbrev pub invariant-loop-i : goal.invariant-loop-i
invariant-loop-i l =
    (hh mm : List Float) → Swept l.x.mu0 l.x.g l.x.e.now l.x.media.now l.x.tab.now hh mm (l.s + l.t * l.x.g.s.n) l.initial.h l.initial.mem → Sweeping l.x.mu0 l.x.g l.x.e.now l.x.media.now l.x.tab.now hh mm l.s l.t l.i l.h l.mem
