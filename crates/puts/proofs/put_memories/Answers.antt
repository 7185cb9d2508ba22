use Prim.Native.Nat.{◌*◌}
use native.Mathlib.Omega.{arith}
use mathlib.Core.Path.{◌≡◌}
use mathlib.Core.Bool.{cond}
use lib.ListN.{length}
use Rattle.codec.specs.Bytes.{floats_bytes}
use Rattle.cpml.proofs.Memories.{either_long}
use Rattle.format.proofs.Written.{floats_long}
use Rattle.puts.proofs.Placed.{wrote_one}
use Rattle.std.proofs.Common.{rules}
use Rattle.puts.proofs.put_memories.Goals as goal

pub returns : goal.returns
returns c =
    let a = c.args in
    let s = cond a.electric a.psi_e.now a.psi_h.now in
    let six = either_long a.electric a.psi_e.now a.psi_h.now (6 * a.n) c.requires.1 c.requires.2 in
    let long : 48 * a.n ≡ length (floats_bytes s) = omega (arith, floats_long s, six) in
    (search rules, wrote_one _ _ _ _ _ _ _ c.put_frame.ensures long c.put_six.ensures (omega (arith, long, c.requires.0)))
