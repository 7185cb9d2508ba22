use Rattle.std.proofs.Common.{refl, arith}
use Rattle.fdtd.proofs.Trios.{put_law}
use Rattle.fdtd.proofs.rows.put_pair.Goals as goal

pub returns : goal.returns
returns c = put_law _ _ _ _ _ (omega arith) (omega arith) (omega arith) refl
