use Rattle.std.proofs.Common.{cond, sym, ap}
use Rattle.boundary.proofs.lossy.stronger_of.Goals as goal

pub returns-then-v-s : goal.returns-then-v-s
returns-then-v-s c = sym (ap (λ b. cond b c.args.v c.args.s) c.if-v-s.true)

pub returns-else-v-s : goal.returns-else-v-s
returns-else-v-s c = sym (ap (λ b. cond b c.args.v c.args.s) c.if-v-s.false)
