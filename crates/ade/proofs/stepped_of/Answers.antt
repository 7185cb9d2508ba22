use Rattle.std.proofs.Common.{◌≡◌, ℕ, refl, subst, arith}
use Rattle.ade.specs.Inner.Runs.{Listed}
use Rattle.ade.proofs.stepped_of.Goals as goal

pub returns : goal.returns
returns c =
    let a = c.args in
    let l = c.loop-slot in
    let q : l.slot ≡ a.material.pole_count = omega arith in
    record { counted = refl; listed = subst (λ (z : ℕ). Listed a.eps0 a.dt a.material z l.coeffs) q l.invariant.1 }
