use Rattle.root.specs.Rounded.{◌⊗◌, summed}
use Prim.Native.Nat.{◌+◌, ℕ}
use mathlib.Core.Path.{◌∙◌, ◌≡◌, ap, refl}
use Rattle.fields.proofs.Places.{first_place, second_place, sum_more}
use native.Mathlib.Omega.{arith}
use Rattle.grid.specs.Stores.{number_at}
use Rattle.fields.proofs.readings.plane_sum.Goals as goal

pub loop-m-init : goal.loop-m-init
unfolding summed
loop-m-init c = refl

pub loop-m-preserved : goal.loop-m-preserved
loop-m-preserved c = let a = c.args in let l = c.loop-m in let p0 = first_place a.e.now a.n (a.q + l.m) in let p1 = second_place a.h.now a.n (a.q + l.m) in rw (p0, p1) (sum_more l.m (λ (m : ℕ). number_at a.e.now a.n 0 (a.q + m) ⊗ number_at a.h.now a.n 1 (a.q + m)) l.sum l.invariant)

pub returns : goal.returns
returns c = let a = c.args in let l = c.loop-m in let e : l.m ≡ a.plane = omega arith in l.invariant ∙ ap (λ (k : ℕ). summed k (λ (m : ℕ). number_at a.e.now a.n 0 (a.q + m) ⊗ number_at a.h.now a.n 1 (a.q + m))) e
