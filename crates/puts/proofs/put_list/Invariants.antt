use mathlib.Core.Path.{◌≡◌}
use lib.ListN.{get_or}
use Rattle.codec.specs.Lists.{put}
use Rattle.cells.specs.Cells.{joined}
use Rattle.grid.specs.Fault.{beyond}
use Rattle.heads.specs.Payloads.{material_bytes}
use Rattle.puts.proofs.put_list.Given as goal

abbrev pub invariant-loop-i : goal.invariant-loop-i
invariant-loop-i l = l.out ≡ put l.initial.out l.at (joined l.i (λ k. material_bytes (get_or l.r.materials k beyond)))
