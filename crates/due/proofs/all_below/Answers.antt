use Rattle.std.proofs.Common.{refl, nat_lt}
use native.Mathlib.Omega.{arith}
use Rattle.due.proofs.Judged.{every_none, every_more, every_all}
use Rattle.due.proofs.all_below.Goals as goal

pub loop-id-init : goal.loop-id-init
loop-id-init c = every_none _ c.args.ids.now

pub loop-id-preserved : goal.loop-id-preserved
loop-id-preserved c = every_more (λ id. nat_lt id c.args.b) c.args.ids.now c.loop-id.id-index c.loop-id-test.true c.loop-id.invariant refl refl

pub returns : goal.returns
returns c = every_all (λ id. nat_lt id c.args.b) c.args.ids.now c.loop-id.id-index (omega arith) c.loop-id.invariant
