use mathlib.Core.Path.{refl}
use Rattle.grid.specs.Fault.{all_below}
use Rattle.heads.specs.Numbers.{gh_fine}
use Rattle.shapes.proofs.gh_fine.Goals as goal

pub returns : goal.returns
unfolding gh_fine all_below
returns c = rw (c.is_fine-5.ensures, c.gh_shaped.ensures, c.is_fine-4.ensures, c.is_fine-3.ensures, c.is_fine-2.ensures, c.is_fine.ensures) refl
