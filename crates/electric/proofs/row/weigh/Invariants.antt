use Rattle.std.proofs.Common.{◌+◌, get_or}
use lib.Ieee.{nan}
use Rattle.fdtd.specs.Yee.{ca, cb}
use Rattle.fdtd.specs.Inner.Span.{Span}
use Rattle.electric.proofs.row.weigh.Given as goal

abbrev pub invariant-loop-i : goal.invariant-loop-i
invariant-loop-i l = Span (λ k. ca l.eps0 l.dt (get_or l.media (l.m + k) nan) (get_or l.media (l.s + k) nan)) l.initial.f.ca 0 0 l.i l.f.ca × Span (λ k. cb l.eps0 l.dt (get_or l.media (l.m + k) nan) (get_or l.media (l.s + k) nan)) l.initial.f.cb 0 0 l.i l.f.cb
