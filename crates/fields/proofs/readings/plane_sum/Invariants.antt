use Rattle.root.specs.Rounded.{◌⊗◌, summed}
use Prim.Native.Nat.{◌+◌, ℕ}
use mathlib.Core.Path.{◌≡◌}
use Rattle.grid.specs.Stores.{number_at}
use Rattle.fields.proofs.readings.plane_sum.Given as goal

abbrev pub invariant-loop-m : goal.invariant-loop-m
invariant-loop-m l = l.sum ≡ summed l.m (λ (k : ℕ). number_at l.e l.n 0 (l.q + k) ⊗ number_at l.h l.n 1 (l.q + k))
