use Rattle.std.proofs.Common.{◌*◌, ap, refl, sym, Float}
use native.Mathlib.Omega.{arith}
use Rattle.root.specs.Rounded.{◌⊗◌}
use Rattle.grid.proofs.Settled.{taken_up}
use Rattle.fields.specs.Fields.{plane_at, plane_call, plane_of}
use Rattle.fields.proofs.Places.{plane_in, plane_none}
use Rattle.fields.proofs.readings.plane_reading.Goals as goal

pub overflow_mul-plane : goal.overflow_mul-plane
overflow_mul-plane c = let k = plane_none _ _ _ _ (sym c.in_ok-plane_fault.ensures) in omega (arith, k.sizes.plane)

pub overflow_mul-plane-2 : goal.overflow_mul-plane-2
overflow_mul-plane-2 c = let k = plane_none _ _ _ _ (sym c.in_ok-plane_fault.ensures) in omega (arith, k.sizes.cells)

pub overflow_mul-k : goal.overflow_mul-k
overflow_mul-k c = let k = plane_none _ _ _ _ (sym c.in_ok-plane_fault.ensures) in let a = c.args in omega (arith, k.sizes.cells, plane_in a.k a.r.nz (a.r.nx * a.r.ny) k.there)

pub plane_sum-sum-requires : goal.plane_sum-sum-requires
plane_sum-sum-requires c = let k = plane_none _ _ _ _ (sym c.in_ok-plane_fault.ensures) in let a = c.args in (plane_in a.k a.r.nz (a.r.nx * a.r.ny) k.there, k.sizes.cells, k.e, k.h)

pub returns : goal.returns
unfolding plane_call plane_of plane_at
returns c = taken_up _ _ c.in_ok-plane_fault.ensures refl (let a = c.args in ap (λ (x : Float). x ⊗ (a.r.spacings.dx ⊗ a.r.spacings.dy)) c.plane_sum-sum.ensures)
