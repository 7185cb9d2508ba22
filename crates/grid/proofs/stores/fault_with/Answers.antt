use Rattle.std.proofs.Common.{rules, ◌≡◌}
use Rattle.refusals.specs.Refusals.{code}
use Rattle.grid.specs.Fault.{fault_of}
use Rattle.grid.specs.Stores.{fault_lent, same_lengths}
use Rattle.grid.proofs.Settled.{own_fault, judged_fault}
use Rattle.grid.proofs.stores.fault_with.Goals as goal

pub returns-in_err-expected : goal.returns-in_err-expected
unfolding fault_lent
returns-in_err-expected c =
    let told : code c.from_residual.result ≡ fault_of c.args.r = search rules in
    own_fault _ _ (search rules) told

pub returns : goal.returns
unfolding fault_lent same_lengths
returns c =
    let same = c.in_ok-expected.ensures.lengths.0 in
    judged_fault c.args.r (same_lengths c.args.lent) 0 c.in_ok-expected.expected _ c.in_ok-expected.ensures.fault (λ none. same) (search rules)
