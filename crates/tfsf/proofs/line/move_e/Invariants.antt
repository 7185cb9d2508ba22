use Rattle.tfsf.specs.Line.{ex_inner}
use Rattle.tfsf.specs.Inner.Spans.{Spanned}
use Rattle.tfsf.proofs.line.move_e.Given as goal

abbrev pub invariant-loop-a : goal.invariant-loop-a
invariant-loop-a l = Spanned (ex_inner l.factor l.n l.initial.line) 1 l.a l.initial.line l.line
