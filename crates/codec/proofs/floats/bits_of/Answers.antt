use Rattle.codec.proofs.Patterns.{nan_bits_lem, no_nan}
use Rattle.codec.proofs.floats.bits_of.Goals as goal

pub float_to_bits-result : goal.float_to_bits-result
float_to_bits-result c = no_nan _ c.if-x.false

pub returns-then-x : goal.returns-then-x
returns-then-x c = nan_bits_lem _ c.if-x.true
