use Rattle.std.proofs.Common.{◌+◌, get_or}
use lib.Ieee.{nan}
use Rattle.fdtd.specs.Yee.{mem_next, layered}
use Rattle.fdtd.specs.Inner.Rows.{k_of}
use Rattle.fdtd.specs.Inner.Span.{Span}
use Rattle.fdtd.proofs.rows.live.Given as goal

abbrev pub invariant-loop-i : goal.invariant-loop-i
invariant-loop-i l = Span (λ k. layered l.second (k_of l.s l.tab k) (get_or l.initial.mem (l.p + k) nan) (get_or l.d k nan) (get_or l.initial.curl k nan)) l.initial.curl 0 l.a l.i l.curl × Span (λ k. mem_next (k_of l.s l.tab k) (get_or l.initial.mem (l.p + k) nan) (get_or l.d k nan)) l.initial.mem l.p l.a l.i l.mem
