use Rattle.root.specs.Rounded.{◌⊕◌, summed}
use native.Mathlib.Omega.{arith}
use Prim.Native.Nat.{ℕ}
use Rattle.fields.specs.Fields.{energy_at}
use mathlib.Core.Path.{◌∙◌, ◌≡◌, ap, refl}
use Rattle.fields.proofs.Places.{sum_more}
use lib.Ieee.{Float}
use Rattle.std.proofs.Common.{rules}
use Rattle.fields.proofs.readings.energy_sum.Goals as goal

pub loop-m-init : goal.loop-m-init
unfolding summed
loop-m-init c = refl

pub energy_at-energy-requires : goal.energy_at-energy-requires
energy_at-energy-requires c = (omega arith, search rules, search rules, search rules)

pub loop-m-preserved : goal.loop-m-preserved
loop-m-preserved c = let a = c.args in let l = c.loop-m in ap (λ (x : Float). l.energy ⊕ x) c.energy_at-energy.ensures ∙ sum_more l.m (energy_at a.eps0 a.mu0 a.dv a.n a.e.now a.h.now a.media.now) l.energy l.invariant

pub returns : goal.returns
returns c = let a = c.args in let l = c.loop-m in let e : l.m ≡ a.n = omega arith in l.invariant ∙ ap (λ (k : ℕ). summed k (energy_at a.eps0 a.mu0 a.dv a.n a.e.now a.h.now a.media.now)) e
