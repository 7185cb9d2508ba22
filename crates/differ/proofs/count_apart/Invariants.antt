use Rattle.std.proofs.Common.{◌≡◌, ◌≤◌}
use Rattle.differ.specs.Apart.{apart, numbers}
use Rattle.differ.proofs.count_apart.Given as goal

abbrev pub invariant-loop-i : goal.invariant-loop-i
invariant-loop-i g l = let e = g.T.Element in (l.n ≤ l.i) × (l.n ≡ apart l.i (numbers e.number e.none l.a) (numbers e.number e.none l.b))
