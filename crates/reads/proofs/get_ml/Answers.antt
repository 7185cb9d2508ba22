use mathlib.Core.Path.{sym, ◌∙◌}
use mathlib.Core.List.{[], ◌∷◌, ◌++◌}
use Rattle.codec.proofs.Row.{nums_at_lem, row_at}
use Rattle.heads.specs.Numbers.{slot_widths}
use Rattle.reads.proofs.get_ml.Goals as goal

pub returns : goal.returns
returns c =
    let a = c.args in
    let s = a.s.now in
    rw (c.slot_at-d.ensures ∙ nums_at_lem slot_widths s a.at 100, c.slot_at-c.ensures ∙ nums_at_lem slot_widths s a.at 75, c.slot_at-b.ensures ∙ nums_at_lem slot_widths s a.at 50, c.slot_at-a.ensures ∙ nums_at_lem slot_widths s a.at 25, c.front_at-f.ensures ∙ row_at 8 (8 ∷ 8 ∷ 1 ∷ []) s a.at)
    (sym (row_at 8 (8 ∷ 8 ∷ 1 ∷ slot_widths ++ slot_widths ++ slot_widths ++ slot_widths) s a.at))
