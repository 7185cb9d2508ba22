use Rattle.lines.proofs.Written.{wrote_then}
use Rattle.lines.proofs.text.Text.put_bits.Goals as goal

pub returns : goal.returns
returns c = wrote_then c.put_hex.ensures c.put_byte.ensures
