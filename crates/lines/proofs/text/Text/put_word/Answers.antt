use Rattle.std.proofs.Common.{arith}
use Rattle.lines.proofs.Written.{wrote_none, wrote_letter, wrote_word}
use Rattle.lines.proofs.text.Text.put_word.Goals as goal

pub loop-byte-init : goal.loop-byte-init
loop-byte-init c = wrote_none (omega (arith, c.requires))

pub loop-byte-preserved : goal.loop-byte-preserved
loop-byte-preserved c = wrote_letter _ _ c.loop-byte-test.true c.loop-byte.invariant c.put_byte.ensures

pub returns : goal.returns
returns c = wrote_word _ _ c.loop-byte-test.false (omega arith) c.loop-byte.invariant c.put_byte-2.ensures
