use Rattle.std.proofs.Common.{rules, ◌≡◌, ◌<◌, length, sym, ap, ◌∙◌, IsErr}
use native.Mathlib.Omega.{arith}
use Rattle.refusals.specs.Refusals.{code}
use Rattle.refusals.proofs.Numbers.{some}
use Rattle.dispersion.specs.Ade.{pole_fault}
use Rattle.dispersion.specs.Material.{pole_in}
use Rattle.dispersion.proofs.Stepped.{steps, stays}
use Rattle.dispersion.proofs.Places.{pole_within}
use Rattle.grid.specs.Fault.{all_below, material_steps}
use Rattle.grid.proofs.Judging.{all_more, all_fails}
use Rattle.grid.proofs.fault.material_steps.Goals as goal

pub loop-slot-init : goal.loop-slot-init
unfolding all_below
loop-slot-init c = search rules

pub returns-then-is_err : goal.returns-then-is_err
unfolding material_steps
returns-then-is_err c =
    let m = c.args.m in
    let slot = c.loop-slot.slot in
    let inside : slot < length m.poles = search rules in
    let fault : code c.ade_coeffs.result.stepped ≡ pole_fault c.args.eps0 c.args.dt (pole_in m slot) = c.ade_coeffs.ensures.fault ∙ ap (pole_fault c.args.eps0 c.args.dt) (pole_within m slot _ inside) in
    let refused : IsErr c.ade_coeffs.result.stepped = search rules in
    sym (all_fails _ slot _ c.loop-slot-test.true (stays _ _ _ fault (some _ refused)))

pub loop-slot-preserved : goal.loop-slot-preserved
loop-slot-preserved c =
    let m = c.args.m in
    let slot = c.loop-slot.slot in
    let inside : slot < length m.poles = search rules in
    let fault : code c.ade_coeffs.result.stepped ≡ pole_fault c.args.eps0 c.args.dt (pole_in m slot) = c.ade_coeffs.ensures.fault ∙ ap (pole_fault c.args.eps0 c.args.dt) (pole_within m slot _ inside) in
    let taken : code c.ade_coeffs.result.stepped ≡ 0 = search rules in
    all_more _ slot c.loop-slot.invariant (steps _ _ _ fault taken)

pub returns : goal.returns
unfolding material_steps
returns c = search rules
