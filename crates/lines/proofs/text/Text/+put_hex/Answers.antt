use Rattle.std.proofs.Common.{arith}
use Rattle.lines.proofs.Written.{hex_empty, hex_next}
use Rattle.lines.proofs.text.Text.+put_hex.Goals as goal

pub returns-then-w-gt0 : goal.returns-then-w-gt0
returns-then-w-gt0 t c = hex_next _ _ c.if-w-gt0.true c.digit.ensures c.put_hex.ensures c.put_byte.ensures

pub returns-else-w-gt0 : goal.returns-else-w-gt0
returns-else-w-gt0 t c = hex_empty _ _ (omega arith) c.requires
