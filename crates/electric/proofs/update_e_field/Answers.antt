use mathlib.Core.Path.{refl}
use Rattle.fdtd.proofs.Fits.{count_for, fit_for}
use native.Mathlib.Omega.{arith}
use Rattle.electric.proofs.Polarized.{held_for}
use Rattle.electric.proofs.Steps.{electric_is, psi_is}
use Rattle.electric.proofs.update_e_field.Goals as goal

pub invariant_of-x : goal.invariant_of-x
invariant_of-x c =
    let pre = c.requires in
    let n = count_for c.args.r 0 _ c.turn_of-g.ensures in
    record { sigma_in_bounds = omega (arith, n, pre.h_len.1); dp_room = held_for c.args.r _ pre.poles_len c.turn_of-g.ensures }

pub step_along-requires : goal.step_along-requires
step_along-requires c =
    let pre = c.requires in
    fit_for c.args.r 0 (omega arith) pre.sound _ _ _ _ pre.h_len.0 pre.psi_e_len.1 pre.psi_e_len.0 pre.h_len.2 c.turn_of-g.ensures

pub returns : goal.returns
returns c =
    let turn-of = c.turn_of-g in
    let step-along = c.step_along in
    let a = c.args in
    let pre = c.requires in
    record { e_after = electric_is a.eps0 a.r _ _ _ _ _ _ _ _ pre.h_len.2 pre.psi_e_len.0 _ turn-of.ensures step-along.ensures; psi_e_after = psi_is a.eps0 a.r _ a.media.now _ a.poles.now _ _ _ _ pre.h_len.2 pre.psi_e_len.0 _ turn-of.ensures step-along.ensures }
