use Rattle.std.proofs.Common.{◌≡◌, ◌≤◌, drop, true}
use Rattle.codec.specs.Bytes.{all_fine}
use Rattle.codec.proofs.stores.no_nan.Given as goal

-- no more NaNs than floats passed; where there is none, all passed
abbrev pub invariant-loop-i : goal.invariant-loop-i
invariant-loop-i l = (l.nans ≤ l.i) × (l.nans ≡ 0 → all_fine l.i (drop l.at l.s) ≡ true)
