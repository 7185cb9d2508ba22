use Rattle.std.proofs.Common.{get_or}
use lib.Ieee.{nan}
use Rattle.root.specs.Rounded.{◌⊖◌, ◌⊗◌, zero_f, one_f}
use Rattle.fdtd.specs.Yee.{joins}
use Rattle.fdtd.specs.Inner.Rows.{k_of}
use Rattle.fdtd.specs.Inner.Span.{Span}
use Rattle.fdtd.proofs.rows.quiet.Given as goal

abbrev pub invariant-loop-i : goal.invariant-loop-i
invariant-loop-i l = Span (λ k. joins l.second (get_or l.initial.curl k nan) zero_f ((one_f ⊖ (k_of l.s l.tab k).kinv) ⊗ get_or l.d k nan)) l.initial.curl 0 l.a l.i l.curl
