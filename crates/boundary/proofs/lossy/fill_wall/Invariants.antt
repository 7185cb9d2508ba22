use Rattle.std.proofs.Common.{◌≡◌, ℕ, ◌<◌, length, get_or}
use lib.Ieee.{nan}
use Rattle.boundary.specs.Lossy.{wall_sigma}
use Rattle.boundary.proofs.lossy.fill_wall.Given as goal

abbrev pub invariant-loop-d : goal.invariant-loop-d
invariant-loop-d l = (length l.wall ≡ 512) × ((d : ℕ) → d < l.d → get_or l.wall d nan ≡ wall_sigma l.t l.a.order l.a.sigma_max d)
