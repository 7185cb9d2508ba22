use Rattle.ade.specs.Inner.Runs.{Changed, by_run}
use Rattle.ade.proofs.run.Given as goal

abbrev pub invariant-loop-s : goal.invariant-loop-s
invariant-loop-s l = Changed l.w.n l.w.a l.w.z (by_run l.k l.e l.w.n l.slots l.s) l.initial.poles l.poles
