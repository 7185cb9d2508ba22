use Rattle.std.proofs.Common.{ap, ◌∙◌}
use Rattle.codec.specs.Lists.{put}
use Rattle.codec.proofs.Bytes.{le_low}
use Rattle.payloads.proofs.put_byte.Goals as goal

pub returns : goal.returns
returns c = let a = c.args in c.put_u8.ensures ∙ ap (put a.out.now a.at) (le_low 1 a.n)
