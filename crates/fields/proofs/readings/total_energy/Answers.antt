use Rattle.std.proofs.Common.{◌∙◌, ap, refl, sym}
use native.Mathlib.Omega.{arith}
use Rattle.root.specs.declared.vacuum.Vacuum.{Vacuum}
use Rattle.root.specs.Rounded.{◌⊗◌, summed}
use Rattle.grid.specs.Stores.{cells}
use Rattle.grid.proofs.Settled.{taken_up}
use Rattle.fields.specs.Fields.{energy_at, energy_call, energy_of}
use Rattle.fields.proofs.Places.{energy_none}
use Rattle.fields.proofs.readings.total_energy.Goals as goal

pub overflow_mul-r : goal.overflow_mul-r
overflow_mul-r c = let k = energy_none _ _ _ _ (sym c.in_ok-energy_fault.ensures) in omega (arith, k.sizes.plane)

pub overflow_mul-r-2 : goal.overflow_mul-r-2
overflow_mul-r-2 c = let k = energy_none _ _ _ _ (sym c.in_ok-energy_fault.ensures) in omega (arith, k.sizes.cells)

pub energy_sum-requires : goal.energy_sum-requires
energy_sum-requires c = let k = energy_none _ _ _ _ (sym c.in_ok-energy_fault.ensures) in (k.e, k.h, k.m)

pub returns : goal.returns
unfolding energy_call energy_of
returns c =
    taken_up _ _ c.in_ok-energy_fault.ensures refl
    (let a = c.args in
    let n = cells a.r in
    let d = a.r.spacings in
    c.energy_sum.ensures
    ∙ ap (λ (v : Vacuum). summed n (energy_at v.eps0 v.mu0 (d.dx ⊗ d.dy ⊗ d.dz) n a.e.now a.h.now a.media.now)) c.chosen-v.ensures)
