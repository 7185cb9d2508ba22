use Rattle.std.proofs.Common.{◌≡◌, ◌-◌, get_or}
use lib.Ieee.{nan}
use Rattle.codec.specs.Lists.{put}
use Rattle.cells.specs.Cells.{joined, row}
use Rattle.boundary.specs.Lossy.{strongest}
use Rattle.boundary.proofs.lossy.lossy_plane.Given as goal

abbrev pub invariant-loop-j : goal.invariant-loop-j
invariant-loop-j l = l.media ≡ put l.initial.media l.at (joined l.j (λ q. row l.nx (λ i. strongest (get_or l.x i nan) (get_or l.x (l.nx - 1 - i) nan) (get_or l.y q nan) (get_or l.y (l.ny - 1 - q) nan) l.z0 l.z1)))
