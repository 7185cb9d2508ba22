use Rattle.std.proofs.Common.{◌≡◌, ℕ, ◌+◌, ◌≤◌, ◌<◌, get_or}
use mathlib.Core.Bool.{not}
use lib.Ieee.{nan, eq}
use Rattle.root.specs.Rounded.{zero_f}
use Rattle.fdtd.proofs.turns.first_place.Given as goal

abbrev pub invariant-loop-i : goal.invariant-loop-i
invariant-loop-i l = (k : ℕ) → l.a ≤ k → k < l.i → eq (get_or l.tab (l.t + k) nan) zero_f ≡ not l.zero
