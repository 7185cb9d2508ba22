use Rattle.std.proofs.Common.{rules, length, ◌≤◌}
use lib.ListN.{drop_of_length-le}
use Rattle.codec.specs.Frame.{frame_fault}
use Rattle.frames.proofs.frame_at.Goals as goal

pub returns-in_err-require-clause-fault : goal.returns-in_err-require-clause-fault
unfolding frame_fault
returns-in_err-require-clause-fault c =
    let past : length c.args.src.now ≤ c.args.at = search rules in
    rw (drop_of_length-le c.args.src.now past) (search rules)
