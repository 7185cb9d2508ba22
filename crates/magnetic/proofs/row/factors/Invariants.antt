use Rattle.std.proofs.Common.{◌+◌, get_or}
use lib.Ieee.{nan}
use Rattle.fdtd.specs.Yee.{factor}
use Rattle.fdtd.specs.Inner.Span.{Span}
use Rattle.magnetic.proofs.row.factors.Given as goal

abbrev pub invariant-loop-i : goal.invariant-loop-i
invariant-loop-i l = Span (λ k. factor l.dt l.mu0 (get_or l.media (l.m + k) nan)) l.initial.f 0 0 l.i l.f
