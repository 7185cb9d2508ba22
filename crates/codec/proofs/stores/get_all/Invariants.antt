use Rattle.std.proofs.Common.{◌≡◌, ◌++◌, drop}
use Rattle.codec.specs.Bytes.{elements_of}
use Rattle.codec.proofs.stores.get_all.Given as goal

abbrev pub invariant-loop-i : goal.invariant-loop-i
invariant-loop-i g l = let e = g.T.Element in l.xs ≡ elements_of e.WIDTH e.element l.i (drop l.at l.s) ++ drop l.i l.initial.xs
