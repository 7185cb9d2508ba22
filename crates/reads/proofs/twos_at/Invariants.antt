use Rattle.std.proofs.Common.{◌≡◌, ◌++◌, drop}
use Rattle.codec.specs.Bytes.{elements_of}
use Rattle.reads.proofs.twos_at.Given as goal

abbrev pub invariant-loop-i : goal.invariant-loop-i
invariant-loop-i g l = l.n ≡ elements_of 2 (λ n. n) l.i (drop l.at l.s) ++ drop l.i l.initial.n
