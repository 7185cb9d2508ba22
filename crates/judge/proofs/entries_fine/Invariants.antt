use Rattle.std.proofs.Common.{◌≡◌, true, drop}
use Rattle.grid.specs.Fault.{all_below}
use Rattle.heads.specs.Numbers.{ml_fine}
use Rattle.heads.specs.Payloads.{entry_at}
use Rattle.judge.proofs.entries_fine.Given as goal

abbrev pub invariant-loop-i : goal.invariant-loop-i
invariant-loop-i l = all_below (λ k. ml_fine (entry_at (drop l.at l.b) k)) l.i ≡ true
