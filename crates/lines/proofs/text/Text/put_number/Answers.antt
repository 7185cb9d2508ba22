use Rattle.std.proofs.Common.{arith}
use Rattle.lines.proofs.Numerals.{ten_digits}
use Rattle.lines.proofs.Written.{wrote_then, wrote_wider}
use Rattle.lines.proofs.text.Text.put_number.Goals as goal

pub put_decimal-requires : goal.put_decimal-requires
put_decimal-requires c = omega (arith, ten_digits c.args.n (omega arith), c.requires)

pub put_byte-requires : goal.put_byte-requires
put_byte-requires c = let w = c.put_decimal.ensures in omega (arith, ten_digits c.args.n (omega arith), c.requires, w.ends, w.long)

pub returns : goal.returns
returns c = wrote_wider (omega (arith, ten_digits c.args.n (omega arith))) (wrote_then c.put_decimal.ensures c.put_byte.ensures)
