use mathlib.Core.Path.{sym, subst}
use mathlib.Core.Bool.{not}
use lib.Dec.{T}
use Rattle.codec.proofs.Patterns.{low_bits, high_nan}
use Rattle.codec.proofs.floats.float_of.Goals as goal

pub float_from_bits-result : goal.float_from_bits-result
float_from_bits-result c = subst (λ t. T (not t)) (sym (low_bits _ c.if-b-le9218868437227405312.true)) tt

pub returns-else-b-le9218868437227405312 : goal.returns-else-b-le9218868437227405312
returns-else-b-le9218868437227405312 c = high_nan _ c.if-b-le9218868437227405312.false
