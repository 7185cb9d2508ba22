use Rattle.std.proofs.Common.{rules, ◌≡◌}
use Rattle.refusals.specs.Refusals.{code}
use Rattle.refusals.proofs.Numbers.{if_ok}
use Rattle.grid.specs.Fault.{first}
use Rattle.grid.specs.Stores.{bad_store, store_lengths}
use Rattle.grid.proofs.Tests.{first_none}
use Rattle.opening.specs.Layer.{layer_long}
use Rattle.opening.proofs.Layered.{tables_long}
use Rattle.walling.proofs.layer_fault.Goals as goal

pub returns-clause-tabled : goal.returns-clause-tabled
returns-clause-tabled c =
    let a = c.args in
    let told : code c.require.result ≡ first (layer_long a.psi_e a.psi_h a.tables (store_lengths a.r)) bad_store 0 = search rules in
    if_ok _ _ told (λ none. tables_long a.r _ _ _ (first_none _ 3 0 none).0)
