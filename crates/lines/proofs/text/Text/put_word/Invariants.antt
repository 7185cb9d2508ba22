use Rattle.std.proofs.Common.{take}
use Rattle.lines.specs.Inner.Places.{Puts}
use Rattle.lines.proofs.text.Text.put_word.Given as goal

abbrev pub invariant-loop-byte : goal.invariant-loop-byte
invariant-loop-byte l = Puts l.byte-index l.initial.self (take l.byte-index l.word) l.self
