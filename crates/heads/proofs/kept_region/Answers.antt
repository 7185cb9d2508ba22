use Rattle.grid.specs.Canon.{canon_region}
use Rattle.heads.proofs.Flat.{region_none, region_some}
use mathlib.Core.Path.{◌∙◌, sym}
use Rattle.heads.proofs.kept_region.Goals as goal

pub returns-then-is_absent : goal.returns-then-is_absent
unfolding canon_region
returns-then-is_absent c = let g = c.args.g in region_none g.kind g (sym c.is_absent.ensures ∙ c.if-is_absent.true)

pub returns : goal.returns
unfolding canon_region
returns c = let g = c.args.g in region_some g.kind g (sym c.is_absent.ensures ∙ c.if-is_absent.false)
