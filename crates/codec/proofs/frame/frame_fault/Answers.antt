use Rattle.std.proofs.Common.{rules}
use Rattle.codec.proofs.Framed.{frame_at}
use Rattle.codec.proofs.frame.frame_fault.Goals as goal

pub returns : goal.returns
returns c = rw frame_at (search rules)
