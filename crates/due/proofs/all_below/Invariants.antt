use Rattle.std.proofs.Common.{◌≡◌, nat_lt, take}
use Rattle.codec.specs.Lists.{every}
use Rattle.due.proofs.all_below.Given as goal

abbrev pub invariant-loop-id : goal.invariant-loop-id
invariant-loop-id l = l.below ≡ every (λ id. nat_lt id l.b) (take l.id-index l.ids)
