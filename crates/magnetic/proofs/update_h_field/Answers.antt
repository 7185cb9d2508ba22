use Rattle.fdtd.proofs.Fits.{count_for, fit_for}
use native.Mathlib.Omega.{arith}
use Rattle.magnetic.proofs.Steps.{magnetic_is, psi_is}
use Rattle.magnetic.proofs.update_h_field.Goals as goal

pub invariant_of-x : goal.invariant_of-x
invariant_of-x c =
    let n = count_for c.args.r 3 _ c.turn_of-g.ensures in
    record { mu_in_bounds = omega (arith, n, c.requires.e_len.1) }

pub step_along-requires : goal.step_along-requires
step_along-requires c =
    let pre = c.requires in
    fit_for c.args.r 3 (omega arith) pre.sound _ _ _ _ pre.e_len.0 pre.psi_h_len.1 pre.psi_h_len.0 pre.e_len.2 c.turn_of-g.ensures

pub returns : goal.returns
returns c =
    let turn-of = c.turn_of-g in
    let step-along = c.step_along in
    let a = c.args in
    let pre = c.requires in
    record { h_after = magnetic_is a.mu0 a.r _ _ _ _ _ _ _ pre.e_len.2 pre.psi_h_len.0 _ turn-of.ensures step-along.ensures; psi_h_after = psi_is a.mu0 a.r _ a.media.now _ _ _ _ _ pre.e_len.2 pre.psi_h_len.0 _ turn-of.ensures step-along.ensures }
