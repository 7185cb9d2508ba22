use native.Mathlib.Omega.{arith}
use mathlib.Core.Path.{sym}
use Rattle.format.proofs.Written.{head_long}
use Rattle.puts.proofs.Placed.{wrote_one}
use Rattle.puts.proofs.put_head.Goals as goal

pub returns : goal.returns
returns c =
    let long = head_long c.args.r in
    wrote_one _ _ _ _ _ _ _ c.put_frame.ensures (sym long) c.put_gh.ensures (omega (arith, long, c.requires))
