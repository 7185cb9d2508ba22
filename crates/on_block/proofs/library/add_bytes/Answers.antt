use Rattle.std.proofs.Common.{rules, ◌≡◌, ℕ, Result, Ok, Err}
use Rattle.refusals.specs.declared.Refusal.{Refusal}
use Rattle.refusals.specs.Refusals.{code}
use Rattle.refusals.proofs.Numbers.{stands_in}
use Rattle.grid.specs.Fault.{fault_of}
use Rattle.grid.proofs.Settled.{refused_with, own_fault, later_fault}
use Rattle.calls.specs.Blocks.{add_bytes_fault, add_bytes_call}
use Rattle.on_block.proofs.Passing.{add_well}
use Rattle.on_block.proofs.library.add_bytes.Goals as goal

pub returns-in-Ok : goal.returns-in-Ok
returns-in-Ok c = add_well _ _ c.in-Ok.ensures.fault c.in-Ok.ensures.material c.add_material.ensures

pub returns-in_err-fault_of-in-Err : goal.returns-in_err-fault_of-in-Err
unfolding add_bytes_call add_bytes_fault
returns-in_err-fault_of-in-Err c =
    let told : code c.from_residual.result ≡ fault_of c.args.r = search rules in
    rw (stands_in c.from_residual.result (search rules) (c.args.r, 0)) (refused_with _ _ _ (search rules) (own_fault _ _ (search rules) told))

pub returns-in_ok-fault_of-in-Err : goal.returns-in_ok-fault_of-in-Err
unfolding add_bytes_call add_bytes_fault
returns-in_ok-fault_of-in-Err c =
    let bytes : Result ℕ Refusal = Err c.in-Err.bytes in
    refused_with bytes _ _ (search rules) (later_fault c.in_ok-fault_of-in-Err.ensures.fault (own_fault bytes _ (search rules) c.in-Err.ensures.fault))
