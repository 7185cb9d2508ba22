use Rattle.std.proofs.Common.{◌≡◌, true}
use Rattle.grid.specs.Fault.{material_at, all_below, material_fits}
use Rattle.grid.proofs.fault.poles_fit.Given as goal

abbrev pub invariant-loop-i : goal.invariant-loop-i
invariant-loop-i l = all_below (λ k. material_fits l.r (material_at l.r k)) l.i ≡ true
