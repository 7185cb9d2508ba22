use Rattle.std.proofs.Common.{rules, ap, ◌≡◌, false, ◌∙◌, length}
use Rattle.std.specs.Prelude.{eqb}
use Rattle.refusals.specs.Refusals.{code}
use Rattle.dispersion.specs.Ade.{ade_coeffs, pole_fault}
use Rattle.heads.specs.Numbers.{pole_of}
use Rattle.calls.specs.Blocks.{readout}
use Rattle.calls.specs.Poles.{coeffs_fault, coeffs_call, three}
use Rattle.calls.proofs.Three.{written, refused}
use Rattle.calls.proofs.poles.put_coeffs.Goals as goal

pub returns-in_err-require : goal.returns-in_err-require
unfolding coeffs_call
returns-in_err-require c =
    let a = c.args in
    let other : eqb (length a.out.now) 3 ≡ false = search rules in
    let told : code c.from_residual.result ≡ coeffs_fault a.tag (length a.out.now) (pole_fault a.eps0 a.dt (pole_of a.tag a.x a.y a.z)) = rw other (search rules) in
    refused _ _ _ (search rules) told

pub returns-in_err-require-2 : goal.returns-in_err-require-2
unfolding coeffs_call
returns-in_err-require-2 c =
    let a = c.args in
    let told : code c.from_residual-in_err-require-2.result ≡ coeffs_fault a.tag (length a.out.now) (pole_fault a.eps0 a.dt (pole_of a.tag a.x a.y a.z)) = search rules in
    refused _ _ _ (search rules) told

pub returns-in_err-turned : goal.returns-in_err-turned
unfolding coeffs_call
returns-in_err-turned c =
    let a = c.args in
    let told : code c.from_residual-in_err-turned.result ≡ coeffs_fault a.tag (length a.out.now) (pole_fault a.eps0 a.dt (pole_of a.tag a.x a.y a.z)) = search rules in
    refused _ _ _ (search rules) told

pub returns : goal.returns
unfolding coeffs_call
returns c =
    let a = c.args in
    let long : length a.out.now ≡ 3 = search rules in
    let none : 0 ≡ coeffs_fault a.tag (length a.out.now) (pole_fault a.eps0 a.dt (pole_of a.tag a.x a.y a.z)) = search rules in
    let same : c.ade_coeffs-turned.result.coeffs ≡ ade_coeffs a.eps0 a.dt (pole_of a.tag a.x a.y a.z) = search rules in
    rw (← none) (ap (readout 0) (written a.out.now _ _ _ long ∙ ap three same))
