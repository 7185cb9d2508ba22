use Rattle.root.specs.Constants.{vacuum_of}
use borrow.Author.Tests.{eq-eqb, ne_eqb}
use Rattle.root.proofs.vacuum.chosen.Goals as goal

pub returns-then-constants-eq0 : goal.returns-then-constants-eq0
unfolding vacuum_of
returns-then-constants-eq0 c = rw (c.c0.ensures, c.mu0.ensures, c.eps0.ensures, eq-eqb _ 0 c.if-constants-eq0.true)

pub returns : goal.returns
unfolding vacuum_of
returns c = rw (c.c0_2019.ensures, c.mu0_2019.ensures, c.eps0_2019.ensures, ne_eqb _ 0 c.if-constants-eq0.false)
