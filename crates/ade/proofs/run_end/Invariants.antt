use Rattle.ade.specs.Inner.Runs.{RunEnd}
use Rattle.ade.proofs.run_end.Given as goal

abbrev pub invariant-loop-z : goal.invariant-loop-z
invariant-loop-z l = RunEnd l.ids l.n l.a l.z
