use lib.ListN.{get_or}
use Prim.Native.Nat.{◌*◌, ◌+◌}
use lib.Ieee.{Float, nan}
use Rattle.fields.proofs.Places.{first_place, second_place}
use mathlib.Core.Path.{◌∙◌, ap}
use Rattle.grid.specs.Stores.{number_at}
use Rattle.fields.specs.Fields.{squared}
use Rattle.fields.proofs.readings.square_at.Goals as goal

pub returns : goal.returns
returns c = let a = c.args in let s = a.s.now in c.squared_of.ensures ∙ ap (λ (x : Float). squared x (get_or s (a.n + a.m) nan) (get_or s (2 * a.n + a.m) nan)) (first_place s a.n a.m) ∙ ap (λ (y : Float). squared (number_at s a.n 0 a.m) y (get_or s (2 * a.n + a.m) nan)) (second_place s a.n a.m)
