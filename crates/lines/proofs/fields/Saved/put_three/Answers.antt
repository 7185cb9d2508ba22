use Rattle.lines.proofs.Words.{three_words}
use Rattle.lines.proofs.Written.{wrote_then, wrote_as}
use Rattle.lines.proofs.fields.Saved.put_three.Goals as goal

pub returns : goal.returns
returns c =
    wrote_as (three_words _ _ _ _ _ _ _ _ c.bits_at.ensures c.bits_at-2.ensures c.bits_at-3.ensures)
    (wrote_then (wrote_then c.put_bits.ensures c.put_bits-2.ensures) c.put_bits-3.ensures)
