use Rattle.lines.proofs.Words.{cell_words}
use Rattle.lines.proofs.Written.{wrote_then, wrote_as}
use Rattle.lines.proofs.fields.Saved.put_cell.Goals as goal

pub returns : goal.returns
returns c =
    let a = c.args in
    let places = wrote_then (wrote_then c.put_number.ensures c.put_number-2.ensures) c.put_number-3.ensures in
    wrote_as (cell_words a.self.now a.i a.j a.k a.m) (wrote_then (wrote_then places c.put_three.ensures) c.put_three-2.ensures)
