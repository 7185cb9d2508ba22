use Rattle.std.proofs.Common.{◌≡◌, refl, sym, ◌∙◌, arith}
use lib.Ieee.{binary64, to_bits, of_bits}
use Rattle.differ.proofs.F64Element.another.Goals as goal

one : to_bits binary64 (of_bits binary64 0x3FF0000000000000) ≡ 0x3FF0000000000000
unfolding to_bits of_bits
one = refl

zero_is : to_bits binary64 (of_bits binary64 0) ≡ 0
unfolding to_bits of_bits
zero_is = refl

pub returns-then-bits_of-eq0 : goal.returns-then-bits_of-eq0
returns-then-bits_of-eq0 c = λ e. omega (arith, one, e)

pub returns-else-bits_of-eq0 : goal.returns-else-bits_of-eq0
returns-else-bits_of-eq0 c = λ e. c.if-bits_of-eq0.false (c.bits_of.ensures ∙ sym e ∙ zero_is)
