use Rattle.std.proofs.Common.{◌≡◌, true}
use Rattle.dispersion.specs.Ade.{pole_steps}
use Rattle.dispersion.specs.Material.{pole_in}
use Rattle.grid.specs.Fault.{all_below}
use Rattle.grid.proofs.fault.material_steps.Given as goal

abbrev pub invariant-loop-slot : goal.invariant-loop-slot
invariant-loop-slot l = all_below (λ k. pole_steps l.eps0 l.dt (pole_in l.m k)) l.slot ≡ true
