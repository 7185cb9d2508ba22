use mathlib.Core.Path.{refl}
use Rattle.electric.proofs.Shorts.{term_on, term_off}
use Rattle.electric.proofs.short.term_of.Goals as goal

pub returns-then-x : goal.returns-then-x
returns-then-x c =
    let a = c.args in
    term_on a.x.now.w a.x.now.poles.now a.i c.if-x.true refl

pub returns-else-x : goal.returns-else-x
returns-else-x c =
    let a = c.args in
    term_off a.x.now.w a.x.now.poles.now a.i c.if-x.false c.requires.0
