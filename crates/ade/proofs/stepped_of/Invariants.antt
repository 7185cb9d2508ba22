use Rattle.std.proofs.Common.{◌≡◌, length}
use Rattle.ade.specs.Inner.Runs.{Listed}
use Rattle.ade.proofs.stepped_of.Given as goal

abbrev pub invariant-loop-slot : goal.invariant-loop-slot
invariant-loop-slot l = (length l.coeffs ≡ 4) × Listed l.eps0 l.dt l.material l.slot l.coeffs
