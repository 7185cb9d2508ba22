use Rattle.std.proofs.Common.{◌∙◌, ap, length, arith}
use Rattle.ade.proofs.Advancing.{room, advanced, few_poles, cleared_length, known_counts}
use Rattle.ade.proofs.advance.Goals as goal

pub tabulate-requires : goal.tabulate-requires
tabulate-requires c =
    let a = c.args in
    record { material_count_bound = omega arith; by_index = few_poles a.eps0 a.r a.ids.now a.e.now a.poles.now c.requires }

pub advance_cells-requires : goal.advance_cells-requires
advance_cells-requires c =
    let pre = c.requires in
    let a = c.args in
    record { poles_room = room a.eps0 a.r a.ids.now a.e.now a.poles.now pre _ (ap length c.fill.ensures ∙ cleared_length a.eps0 a.r a.ids.now a.e.now a.poles.now pre); n_in_bounds = omega arith; by_index = known_counts a.eps0 a.r a.ids.now a.e.now a.poles.now pre _ c.tabulate.ensures }

pub returns : goal.returns
returns c =
    let a = c.args in
    advanced a.eps0 a.r a.ids.now a.e.now a.poles.now c.requires _ _ _ c.fill.ensures c.tabulate.ensures c.advance_cells.ensures
