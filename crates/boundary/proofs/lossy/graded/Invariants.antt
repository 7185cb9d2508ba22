use Rattle.std.proofs.Common.{◌≡◌, ◌-◌, get_or}
use lib.Ieee.{nan}
use Rattle.codec.specs.Lists.{put}
use Rattle.cells.specs.Cells.{joined, row}
use Rattle.boundary.specs.Lossy.{strongest}
use Rattle.boundary.proofs.lossy.graded.Given as goal

abbrev pub invariant-loop-k : goal.invariant-loop-k
invariant-loop-k l = l.media ≡ put l.initial.media l.at (joined l.k (λ q. joined l.r.ny (λ j. row l.r.nx (λ i. strongest (get_or l.x i nan) (get_or l.x (l.r.nx - 1 - i) nan) (get_or l.y j nan) (get_or l.y (l.r.ny - 1 - j) nan) (get_or l.z q nan) (get_or l.z (l.r.nz - 1 - q) nan)))))
