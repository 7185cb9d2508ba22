use Rattle.root.proofs.Recurrence.{Taken}
use Rattle.root.proofs.digits.Given as goal

abbrev pub invariant-loop : goal.invariant-loop
invariant-loop l = Taken l.a l.q l.r l.w l.counter
