use Rattle.std.proofs.Common.{rules, refl, sym, ◌≡◌, ◌≤◌, ◌∙◌, length}
use Rattle.std.specs.Prelude.{leb}
use Rattle.refusals.specs.Refusals.{code}
use Rattle.grid.specs.Fault.{first}
use Rattle.grid.specs.Stores.{stores, lengths_of, fault_with}
use Rattle.grid.proofs.Settled.{refused_with, taken_up, own_fault, later_fault, with_none}
use Rattle.format.specs.Save.{save_length, save_fault, save_call, no_room}
use Rattle.saves.proofs.Called.{roomy}
use Rattle.saves.proofs.save.Goals as goal

pub returns-in_err-fault_with : goal.returns-in_err-fault_with
unfolding save_call save_fault
returns-in_err-fault_with c =
    let a = c.args in
    let s = stores a.e.now a.h.now a.media.now a.psi_e.now a.psi_h.now a.tables.now a.poles.now a.aux.now a.ids.now in
    let told : code c.from_residual.result ≡ fault_with a.r (lengths_of s) = search rules in
    refused_with _ _ _ (search rules) (own_fault _ _ (search rules) told)

pub length_of-requires : goal.length_of-requires
length_of-requires c = (with_none _ _ (sym c.in_ok-fault_with.ensures)).0

pub returns-in_err-require : goal.returns-in_err-require
unfolding save_call save_fault
returns-in_err-require c =
    let told : code c.from_residual-in_err-require.result ≡ first (leb (save_length c.args.r) (length c.args.out.now)) no_room 0 = search rules in
    refused_with _ _ _ (search rules) (later_fault (c.in_ok-fault_with.ensures ∙ rw c.lengths_of-lent.ensures) told)

pub put_save-requires : goal.put_save-requires
put_save-requires c =
    let a = c.args in
    let passed = with_none _ _ (sym c.in_ok-fault_with.ensures) in
    let room : c.length_of.result ≤ length a.out.now = search rules in
    roomy a.r (stores a.e.now a.h.now a.media.now a.psi_e.now a.psi_h.now a.tables.now a.poles.now a.aux.now a.ids.now) c.length_of.result _
    passed.0 (sym c.lengths_of-lent.ensures ∙ passed.1) c.length_of.ensures room

pub returns : goal.returns
unfolding save_call save_fault
returns c =
    let told : 0 ≡ first (leb (save_length c.args.r) (length c.args.out.now)) no_room 0 = search rules in
    taken_up _ _ (later_fault (c.in_ok-fault_with.ensures ∙ rw c.lengths_of-lent.ensures) told) refl c.put_save.ensures
