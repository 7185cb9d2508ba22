use Rattle.std.proofs.Common.{◌≡◌, ◌-◌, get_or}
use lib.Ieee.{nan}
use Rattle.codec.specs.Lists.{put}
use Rattle.cells.specs.Cells.{row}
use Rattle.boundary.specs.Lossy.{strongest}
use Rattle.boundary.proofs.lossy.lossy_row.Given as goal

abbrev pub invariant-loop-i : goal.invariant-loop-i
invariant-loop-i l = l.media ≡ put l.initial.media l.at (row l.i (λ q. strongest (get_or l.x q nan) (get_or l.x (l.nx - 1 - q) nan) l.y0 l.y1 l.z0 l.z1))
