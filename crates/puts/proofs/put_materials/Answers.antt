use native.Mathlib.Omega.{arith}
use mathlib.Core.Path.{sym}
use Rattle.format.proofs.Written.{list_long}
use Rattle.puts.proofs.Placed.{wrote_one}
use Rattle.std.proofs.Common.{rules}
use Rattle.puts.proofs.put_materials.Goals as goal

pub returns : goal.returns
returns c =
    let long = list_long c.args.r in
    (search rules, wrote_one _ _ _ _ _ _ _ c.put_frame.ensures (sym long) c.put_list.ensures (omega (arith, long, c.requires.0)))
