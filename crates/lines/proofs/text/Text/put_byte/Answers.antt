use Rattle.std.proofs.Common.{arith, refl}
use lib.ListN.{length-set}
use Rattle.codec.proofs.Lists.{put_one}
use Rattle.lines.proofs.text.Text.put_byte.Goals as goal

pub returns : goal.returns
returns c = let h = c.requires in record { same = refl; is = put_one _ _ _ (omega (arith, h)); ends = refl; short = omega arith; room = omega (arith, h); long = length-set _ _ _ }
