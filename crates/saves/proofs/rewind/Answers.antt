use Rattle.std.proofs.Common.{rules, arith, ◌≡◌, ◌∙◌}
use Rattle.refusals.specs.Refusals.{code}
use Rattle.grid.specs.Stores.{stores, lengths_of, fault_with}
use Rattle.grid.proofs.Settled.{handed_back, taken_up, own_fault}
use Rattle.format.specs.Rewind.{bytes_fault, rewind_fault, rewind_call}
use Rattle.saves.proofs.Taken.{count_small, fault_is, stores_room, stores_said}
use Rattle.saves.proofs.rewind.Goals as goal

pub returns-in_err-bytes_fault : goal.returns-in_err-bytes_fault
unfolding rewind_call rewind_fault
returns-in_err-bytes_fault c standing =
    let told : code c.from_residual.result ≡ bytes_fault c.args.b.now = search rules in
    handed_back _ _ _ _ (search rules) (own_fault _ _ (search rules) told)

pub returns-in_err-fault_with : goal.returns-in_err-fault_with
unfolding rewind_call
returns-in_err-fault_with c standing =
    let a = c.args in
    let s = stores a.e.now a.h.now a.media.now a.psi_e.now a.psi_h.now a.tables.now a.poles.now a.aux.now a.ids.now in
    let told : code c.from_residual-in_err-fault_with.result ≡ fault_with c.get_record-r.result c.lengths_of-lent.result = search rules in
    handed_back _ standing _ _ (search rules)
    (told ∙ rw (c.lengths_of-lent.ensures) (fault_is a.b.now c.in_ok-bytes_fault.ensures (λ i. (c.type_inv.b i).fits) c.get_record-r.ensures s))

pub stores_from-at-requires : goal.stores_from-at-requires
stores_from-at-requires c = count_small c.args.b.now c.in_ok-bytes_fault.ensures (λ i. (c.type_inv.b i).fits) c.get_record-r.ensures

pub get_stores-requires : goal.get_stores-requires
get_stores-requires c =
    let a = c.args in
    let s = stores a.e.now a.h.now a.media.now a.psi_e.now a.psi_h.now a.tables.now a.poles.now a.aux.now a.ids.now in
    let fits : 0 ≡ fault_with c.get_record-r.result (lengths_of s) = c.in_ok-fault_with.ensures ∙ rw c.lengths_of-lent.ensures in
    omega (arith, stores_room a.b.now c.in_ok-bytes_fault.ensures (λ i. (c.type_inv.b i).fits) c.get_record-r.ensures s fits _ c.stores_from-at.ensures.0)

pub returns : goal.returns
unfolding rewind_call
returns c standing =
    let a = c.args in
    let s = stores a.e.now a.h.now a.media.now a.psi_e.now a.psi_h.now a.tables.now a.poles.now a.aux.now a.ids.now in
    let fits : 0 ≡ fault_with c.get_record-r.result (lengths_of s) = c.in_ok-fault_with.ensures ∙ rw c.lengths_of-lent.ensures in
    taken_up _ _ (fits ∙ fault_is a.b.now c.in_ok-bytes_fault.ensures (λ i. (c.type_inv.b i).fits) c.get_record-r.ensures s) c.get_record-r.ensures
    (stores_said a.b.now c.in_ok-bytes_fault.ensures (λ i. (c.type_inv.b i).fits) c.get_record-r.ensures s fits _ _ c.stores_from-at.ensures.0 c.get_stores.ensures)
