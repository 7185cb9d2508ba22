use Prim.Native.Nat.{◌*◌}
use mathlib.Core.Path.{◌≡◌}
use mathlib.Core.Bool.{cond}
use lib.ListN.{take}
use Rattle.codec.specs.Lists.{put}
use Rattle.codec.specs.Bytes.{floats_bytes}
use Rattle.puts.proofs.put_six.Given as goal

abbrev pub invariant-loop-k : goal.invariant-loop-k
invariant-loop-k l = l.out ≡ put l.initial.out l.at (floats_bytes (take (l.k * l.n) (cond l.electric l.psi_e l.psi_h)))
