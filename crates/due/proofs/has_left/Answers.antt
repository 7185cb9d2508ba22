use Rattle.std.proofs.Common.{rules, ◌≤◌, refl}
use Rattle.due.specs.Due.{last_step}
use Rattle.due.proofs.Judged.{left_is}
use Rattle.due.proofs.has_left.Goals as goal

pub returns : goal.returns
returns c =
    let few : c.args.steps ≤ last_step = search rules in
    left_is c.args.steps c.args.n _ few refl
