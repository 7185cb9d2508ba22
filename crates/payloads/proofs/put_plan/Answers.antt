use mathlib.Core.Path.{◌≡◌}
use native.Mathlib.Omega.{arith}
use lib.ListN.{length}
use Rattle.payloads.proofs.Written.{plan_put}
use Rattle.payloads.proofs.put_plan.Goals as goal

pub returns : goal.returns
returns c =
    let a = c.args in
    let long : length a.flags ≡ 7 = omega arith in
    plan_put a.out.now _ _ _ a.at _ _ _ _ _ _ _ _ long c.requires c.put_three_twos.ensures c.put_flags.ensures c.put_counts.ensures
