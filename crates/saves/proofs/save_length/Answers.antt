use Rattle.std.proofs.Common.{rules, refl, ◌≡◌}
use Rattle.refusals.specs.Refusals.{code}
use Rattle.refusals.proofs.Numbers.{stands_in}
use Rattle.grid.specs.Fault.{fault_of}
use Rattle.grid.proofs.Settled.{refused_with, taken_up}
use Rattle.format.specs.Save.{length_call}
use Rattle.saves.proofs.save_length.Goals as goal

pub returns-in_err-fault_of : goal.returns-in_err-fault_of
unfolding length_call
returns-in_err-fault_of c =
    let told : code c.from_residual.result ≡ fault_of c.args.r = search rules in
    rw (stands_in c.from_residual.result (search rules) 0) (refused_with _ _ _ (search rules) told)

pub returns : goal.returns
unfolding length_call
returns c = taken_up _ _ c.in_ok-fault_of.ensures.fault refl c.length_of.ensures
