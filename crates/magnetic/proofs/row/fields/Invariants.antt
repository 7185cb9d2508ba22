use Rattle.std.proofs.Common.{◌+◌, get_or}
use lib.Ieee.{nan}
use Rattle.root.specs.Rounded.{◌⊖◌, ◌⊗◌}
use Rattle.fdtd.specs.Inner.Span.{Span}
use Rattle.magnetic.proofs.row.fields.Given as goal

abbrev pub invariant-loop-i : goal.invariant-loop-i
invariant-loop-i l = Span (λ k. get_or l.initial.h (l.q + k) nan ⊖ get_or l.f k nan ⊗ get_or l.curl k nan) l.initial.h l.q 0 l.i l.h
