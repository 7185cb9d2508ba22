use borrow.Author.Tests.{lt-ltb, le-ltb}
use Rattle.dispersion.specs.Material.{pushed}
use Rattle.dispersion.proofs.DispersiveMaterial.with_pole.Goals as goal

pub returns-then-n-lt-MAX_POLES : goal.returns-then-n-lt-MAX_POLES
unfolding pushed
returns-then-n-lt-MAX_POLES c = simp (lt-ltb _ _ c.if-n-lt-MAX_POLES.true)

pub returns-else-n-lt-MAX_POLES : goal.returns-else-n-lt-MAX_POLES
unfolding pushed
returns-else-n-lt-MAX_POLES c = simp (le-ltb _ _ c.if-n-lt-MAX_POLES.false)
