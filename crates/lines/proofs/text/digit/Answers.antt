use Rattle.lines.proofs.Numerals.{low_glyph, high_glyph}
use Rattle.lines.proofs.text.digit.Goals as goal

pub returns-then-d-lt10 : goal.returns-then-d-lt10
returns-then-d-lt10 c = low_glyph _ c.if-d-lt10.true

pub returns-else-d-lt10 : goal.returns-else-d-lt10
returns-else-d-lt10 c = high_glyph _ c.if-d-lt10.false
