use Rattle.std.proofs.Common.{rules, arith}
use Rattle.lines.proofs.Numerals.{one_long, more_long}
use Rattle.lines.proofs.Written.{decimal_first, decimal_next}
use Rattle.lines.proofs.text.Text.+put_decimal.Goals as goal

pub put_byte-requires : goal.put_byte-requires
put_byte-requires t c = omega (arith, one_long _ c.if-n-lt10.true, c.requires)

pub returns-then-n-lt10 : goal.returns-then-n-lt10
returns-then-n-lt10 t c = decimal_first c.if-n-lt10.true c.digit.ensures c.put_byte.ensures

pub put_decimal-requires : goal.put_decimal-requires
put_decimal-requires t c = (search rules, omega (arith, more_long _ c.if-n-lt10.false, c.requires))

pub put_byte-requires-else-n-lt10 : goal.put_byte-requires-else-n-lt10
put_byte-requires-else-n-lt10 t c = let w = c.put_decimal.ensures in omega (arith, more_long _ c.if-n-lt10.false, c.requires, w.ends, w.long)

pub returns-else-n-lt10 : goal.returns-else-n-lt10
returns-else-n-lt10 t c = decimal_next c.if-n-lt10.false c.digit-else-n-lt10.ensures c.put_decimal.ensures c.put_byte-else-n-lt10.ensures
