use Rattle.std.proofs.Common.{◌≡◌, ◌≤◌, length, drop}
use Rattle.format.specs.Records.{records_fault}
use Rattle.judge.specs.Inner.Places.{floats_records}
use Rattle.judge.proofs.floats_fault.Given as goal

abbrev pub invariant-loop-mark : goal.invariant-loop-mark
invariant-loop-mark l = record {
  within : l.at ≤ length l.b;
  rest : records_fault (floats_records l.records) (drop l.start l.b) ≡ records_fault (floats_records (drop l.mark-index l.records)) (drop l.at l.b);
}
