use Rattle.std.proofs.Common.{rules, ◌≡◌}
use Rattle.refusals.specs.Refusals.{code, number}
use Rattle.on_block.proofs.Passing.{stays, well}
use Rattle.on_block.proofs.studies.reset_fields.Goals as goal

pub returns-in_err-reset_fields : goal.returns-in_err-reset_fields
returns-in_err-reset_fields c =
    let own = c.in_ok-r.ensures.record in
    let told : code c.from_residual-in_err-reset_fields.result ≡ number c.in_err-reset_fields.field-0.0 = search rules in
    stays _ _ _ own.0 own.1 _ (search rules) told c.in_err-reset_fields.ensures

pub returns : goal.returns
returns c =
    let own = c.in_ok-r.ensures.record in
    well _ _ _ own.0 own.1 c.keep.ensures.fault c.in_ok-reset_fields.ensures (c.keep.ensures.block c.in_ok-r.r)
