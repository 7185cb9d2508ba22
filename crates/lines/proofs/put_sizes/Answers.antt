use Rattle.lines.proofs.Written.{wrote_then}
use Rattle.lines.proofs.put_sizes.Goals as goal

pub returns : goal.returns
returns c = wrote_then (wrote_then (wrote_then c.put_word.ensures c.put_number.ensures) c.put_number-2.ensures) c.put_number-3.ensures
