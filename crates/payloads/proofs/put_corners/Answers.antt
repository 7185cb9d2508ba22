use Rattle.payloads.proofs.Written.{corners_put}
use Rattle.payloads.proofs.put_corners.Goals as goal

pub returns : goal.returns
returns c = corners_put c.args.out.now _ _ c.args.at c.args.g c.requires c.put_three_twos.ensures c.put_three_twos-2.ensures
