use Rattle.std.proofs.Common.{◌+◌, ◌-◌, get_or}
use lib.Ieee.{nan}
use Rattle.fdtd.specs.Yee.{slope}
use Rattle.fdtd.specs.Inner.Span.{Trio}
use Rattle.fdtd.proofs.rows.pairs.Given as goal

abbrev pub invariant-loop-i : goal.invariant-loop-i
invariant-loop-i l = Trio (λ k. slope l.b.d (get_or l.f (l.b.lo + (k - l.a)) nan) (get_or l.f (l.b.hi + (k - l.a)) nan)) (λ k. slope l.c.d (get_or l.f (l.c.lo + (k - l.a)) nan) (get_or l.f (l.c.hi + (k - l.a)) nan)) l.initial.scr l.a (l.a + l.i) l.scr
