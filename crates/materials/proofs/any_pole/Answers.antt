use Rattle.std.proofs.Common.{rules, sym, refl}
use borrow.Author.Tests.{lt-ltb, le-ltb}
use Rattle.materials.specs.Materials.{any_below, any_pole}
use Rattle.materials.proofs.Building.{any_none, any_some}
use Rattle.materials.proofs.any_pole.Goals as goal

pub loop-i-init : goal.loop-i-init
unfolding any_below
loop-i-init c = refl

pub returns-then-r-i-gt0 : goal.returns-then-r-i-gt0
unfolding any_pole
returns-then-r-i-gt0 c = sym (any_some _ c.loop-i.i _ c.loop-i-test.true (lt-ltb _ _ c.if-r-i-gt0.true))

pub loop-i-preserved : goal.loop-i-preserved
loop-i-preserved c = any_none _ c.loop-i.i c.loop-i.invariant (le-ltb _ _ c.if-r-i-gt0.false)

pub returns : goal.returns
unfolding any_pole
returns c = search rules
