use Rattle.std.proofs.Common.{◌≡◌, false, nat_lt}
use Rattle.grid.specs.Fault.{pole_count}
use Rattle.materials.specs.Materials.{any_below}
use Rattle.materials.proofs.any_pole.Given as goal

abbrev pub invariant-loop-i : goal.invariant-loop-i
invariant-loop-i l = any_below (λ k. nat_lt 0 (pole_count l.r k)) l.i ≡ false
