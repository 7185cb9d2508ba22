use Rattle.std.proofs.Common.{rules, sym, ap, ◌≡◌, ◌∙◌, IsErr}
use Rattle.refusals.specs.Refusals.{code}
use Rattle.grid.specs.Stores.{stores, lengths_of, fault_with}
use Rattle.grid.proofs.Settled.{handed_back, taken_up, with_none}
use Rattle.opening.specs.Opening.{open_record, open_stores, open_call}
use Rattle.opening.proofs.new_rect.Goals as goal

pub returns-in_err-fault_with : goal.returns-in_err-fault_with
unfolding open_call
returns-in_err-fault_with c standing =
    let told : code c.from_residual.result ≡ fault_with c.open_record-r.result c.lengths_of-lent.result = search rules in
    handed_back _ _ _ _ (search rules) (told ∙ rw (c.open_record-r.ensures, c.lengths_of-lent.ensures))

pub open_stores-requires : goal.open_stores-requires
open_stores-requires c = rw (← c.lengths_of-lent.ensures) (with_none _ _ (sym c.in_ok-fault_with.ensures))

pub returns : goal.returns
unfolding open_call
returns c standing =
    let same = c.open_record-r.ensures in
    taken_up _ _ (c.in_ok-fault_with.ensures ∙ rw (same, c.lengths_of-lent.ensures)) same (c.open_stores.ensures ∙ ap open_stores same)
