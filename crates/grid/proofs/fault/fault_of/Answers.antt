use Rattle.std.proofs.Common.{rules, ◌≡◌}
use Rattle.refusals.specs.Refusals.{code}
use Rattle.refusals.proofs.Numbers.{if_ok}
use Rattle.grid.specs.Fault.{fault_of}
use Rattle.grid.proofs.Judging.{sound}
use Rattle.grid.proofs.fault.fault_of.Goals as goal

pub returns-clause-sound : goal.returns-clause-sound
unfolding fault_of
returns-clause-sound c =
    let told : code c.require-3.result ≡ fault_of c.args.r = search rules in
    if_ok _ _ told (sound c.args.r)
