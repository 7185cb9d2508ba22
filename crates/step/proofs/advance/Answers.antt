use Rattle.step.proofs.Whole.{stepped_is}
use Rattle.std.proofs.Common.{rules}
use Rattle.step.proofs.advance.Goals as goal

pub magnetic_half-requires : goal.magnetic_half-requires
magnetic_half-requires c = let p = c.requires.step_ready in record { wavy = p.wavy; e_len = (p.polar.field, p.memory.1, p.memory.2) }

pub electric_half-requires : goal.electric_half-requires
electric_half-requires c =
    let p = c.requires.step_ready in record { wavy = record { sound = p.wavy.sound; corners = p.wavy.corners; stuff = p.wavy.stuff; wave = search rules; field = search rules }; polar = p.polar; psi_e_len = (p.memory.0, p.memory.2) }

pub tick-requires : goal.tick-requires
tick-requires c = c.requires.steps_lt_last_step

pub returns : goal.returns
returns c =
    let m = c.magnetic_half.ensures in
    let e = c.electric_half.ensures in
    record { value = c.tick.ensures; ids_after = stepped_is _ _ _ _ _ _ _ _ _ _ _ _ _ _ m.aux_after m.h_after m.psi_h_after e.poles_after e.e_after e.psi_e_after e.aux_after }
