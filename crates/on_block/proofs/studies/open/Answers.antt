use Rattle.std.proofs.Common.{rules, refl, ap, ◌≡◌, ◌∙◌}
use Rattle.refusals.specs.Refusals.{code}
use Rattle.grid.specs.Fault.{fault_of}
use Rattle.grid.proofs.Settled.{own_fault, later_fault}
use Rattle.opening.specs.Opening.{open_record}
use Rattle.on_block.proofs.Passing.{open_ill, open_well}
use Rattle.on_block.proofs.studies.open.Goals as goal

pub returns-in_err-fault_of : goal.returns-in_err-fault_of
returns-in_err-fault_of c =
    let told : code c.from_residual.result ≡ fault_of c.open_record-r.result = search rules in
    open_ill _ _ _ _ _ _ _ _ c.if-b-ne-BLOCK_LENGTH.true (own_fault _ _ (search rules) (told ∙ ap fault_of c.open_record-r.ensures))

pub returns-then-b-ne-BLOCK_LENGTH : goal.returns-then-b-ne-BLOCK_LENGTH
returns-then-b-ne-BLOCK_LENGTH c =
    open_ill _ _ _ _ _ _ _ _ c.if-b-ne-BLOCK_LENGTH.true (later_fault (c.in_ok-fault_of.ensures.fault ∙ ap fault_of c.open_record-r.ensures) refl)

pub returns : goal.returns
returns c =
    let a = c.args in
    let standing = open_record a.nx a.ny a.nz a.pole_slots (record { dx = a.dx; dy = a.dy; dz = a.dz; dt = a.dt }) a.constants in
    open_well _ _ _ _ _ _ _ _ standing c.if-b-ne-BLOCK_LENGTH.false c.keep.ensures.fault (c.new_rect-opened.ensures standing) (c.keep.ensures.block standing)
