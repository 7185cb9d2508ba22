use Rattle.grid.specs.declared.Region.{Region}
use mathlib.Core.Path.{◌∙◌, ap}
use Rattle.tfsf.specs.Wave.{region_call}
use Rattle.tfsf.proofs.region.slab_z.Goals as goal

pub returns : goal.returns
returns c = let a = c.args in c.set_region.ensures ∙ ap (λ (g : Region). region_call a.r g a.aux.now) (cc)
