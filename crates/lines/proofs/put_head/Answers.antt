use Rattle.lines.proofs.Words.{head_words}
use Rattle.lines.proofs.Written.{wrote_then, wrote_as}
use Rattle.lines.proofs.put_head.Goals as goal

pub returns : goal.returns
returns c =
    let r = c.args.r in
    let steps = wrote_then (wrote_then c.put_sizes.ensures c.put_word.ensures) c.put_number.ensures in
    wrote_as (head_words r.nx r.ny r.nz r.clock.steps r.material_count) (wrote_then (wrote_then steps c.put_word-2.ensures) c.put_number-2.ensures)
