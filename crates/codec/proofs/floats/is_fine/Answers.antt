use borrow.Author.Tests.{le-leb}
use Rattle.std.proofs.Common.{◌∙◌}
use Rattle.codec.proofs.Patterns.{low_fine, high_fine}
use Rattle.codec.proofs.floats.is_fine.Goals as goal

pub returns-then-b-le9218868437227405312 : goal.returns-then-b-le9218868437227405312
returns-then-b-le9218868437227405312 c = le-leb _ _ c.if-b-le9218868437227405312.true ∙ low_fine _ c.if-b-le9218868437227405312.true

pub returns-else-b-le9218868437227405312 : goal.returns-else-b-le9218868437227405312
returns-else-b-le9218868437227405312 c = high_fine _ c.if-b-le9218868437227405312.false
