use Rattle.std.proofs.Common.{◌≡◌}
use Rattle.codec.specs.Lists.{part, put}
use Rattle.cpml.proofs.absorber.copy.Given as goal

abbrev pub invariant-loop-i : goal.invariant-loop-i
invariant-loop-i l = l.tables ≡ put l.initial.tables l.at (part l.given l.at l.i)
