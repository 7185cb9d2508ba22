use Rattle.root.specs.Rounded.{summed}
use Rattle.fields.specs.Fields.{energy_at}
use mathlib.Core.Path.{◌≡◌}
use Rattle.fields.proofs.readings.energy_sum.Given as goal

abbrev pub invariant-loop-m : goal.invariant-loop-m
invariant-loop-m l = l.energy ≡ summed l.m (energy_at l.eps0 l.mu0 l.dv l.n l.e l.h l.media)
