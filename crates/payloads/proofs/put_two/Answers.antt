use Rattle.std.proofs.Common.{ap, ◌∙◌}
use Rattle.codec.specs.Lists.{put}
use Rattle.codec.proofs.Bytes.{le_low}
use Rattle.payloads.proofs.put_two.Goals as goal

pub returns : goal.returns
returns c = let a = c.args in c.put_u16.ensures ∙ ap (put a.out.now a.at) (le_low 2 a.n)
