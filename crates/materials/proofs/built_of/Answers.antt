use mathlib.Core.Path.{sym, ◌∙◌}
use Rattle.materials.specs.Materials.{built_of}
use Rattle.materials.proofs.built_of.Goals as goal

pub returns-then-any_pole : goal.returns-then-any_pole
unfolding built_of
returns-then-any_pole c = rw (sym c.any_pole.ensures ∙ c.if-any_pole.true)

pub returns-else-any_pole : goal.returns-else-any_pole
unfolding built_of
returns-else-any_pole c = rw (sym c.any_pole.ensures ∙ c.if-any_pole.false)
