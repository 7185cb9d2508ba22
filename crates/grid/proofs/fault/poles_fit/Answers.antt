use Rattle.std.proofs.Common.{rules, ◌≡◌, sym, ◌∙◌}
use Rattle.grid.specs.Fault.{material_at, all_below, material_fits, poles_fit}
use Rattle.grid.proofs.Judging.{all_more, all_fails}
use Rattle.grid.proofs.fault.poles_fit.Goals as goal

pub loop-i-init : goal.loop-i-init
unfolding all_below
loop-i-init c = search rules

pub returns-then-not-material_fits : goal.returns-then-not-material_fits
unfolding poles_fit material_fits
returns-then-not-material_fits c =
    let fits : c.material_fits.result ≡ material_fits c.args.r (material_at c.args.r c.loop-i.i) = c.material_fits.ensures ∙ rw c.chosen-eps0.ensures in
    sym (all_fails _ c.loop-i.i _ c.loop-i-test.true (sym fits ∙ c.if-not-material_fits.true))

pub loop-i-preserved : goal.loop-i-preserved
unfolding material_fits
loop-i-preserved c =
    let fits : c.material_fits.result ≡ material_fits c.args.r (material_at c.args.r c.loop-i.i) = c.material_fits.ensures ∙ rw c.chosen-eps0.ensures in
    all_more _ c.loop-i.i c.loop-i.invariant (sym fits ∙ c.if-not-material_fits.false)

pub returns : goal.returns
unfolding poles_fit
returns c = search rules
