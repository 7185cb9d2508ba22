use mathlib.Core.Path.{ap, ◌∙◌}
use lib.Ieee.{binary64, of_bits}
use Rattle.codec.specs.Bytes.{bits}
use Rattle.lines.proofs.fields.bits_at.Goals as goal

pub returns : goal.returns
returns c = c.bits_of.ensures ∙ ap bits (c.float_of.ensures ∙ ap (of_bits binary64) c.get_u64.ensures)
