use Rattle.ade.specs.Inner.Runs.{Changed, by_span}
use Rattle.ade.proofs.span.Given as goal

abbrev pub invariant-loop-m : goal.invariant-loop-m
invariant-loop-m l = Changed l.fn.w.n l.fn.w.a l.m (by_span l.k l.e l.fn.w.n l.c l.i l.j l.d) l.initial.poles l.poles
