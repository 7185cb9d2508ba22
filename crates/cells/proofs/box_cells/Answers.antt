use mathlib.Core.Path.{sym, ◌∙◌}
use Rattle.cells.specs.Counted.{box_cells_lem}
use Rattle.cells.proofs.box_cells.Goals as goal

pub returns : goal.returns
returns c =
    c.times.ensures.0
    ∙ rw (c.cut_to-z.ensures.0, c.times-plane.ensures.0, c.cut_to-y.ensures.0, c.cut_to-x.ensures.0)
    (sym (box_cells_lem _ _ _ _))
