use Rattle.tfsf.proofs.Ends.{hy_span}
use Rattle.tfsf.specs.Inner.Spans.{Spanned}
use Prim.Native.Nat.{◌+◌}
use Rattle.tfsf.proofs.line.move_h.Given as goal

abbrev pub invariant-loop-a : goal.invariant-loop-a
invariant-loop-a l = Spanned (hy_span l.factor l.n l.initial.line) l.n (l.n + l.a) l.initial.line l.line
