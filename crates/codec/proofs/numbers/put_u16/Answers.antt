use Rattle.codec.proofs.Bytes.{put_halves}
use Rattle.codec.proofs.numbers.put_u16.Goals as goal

pub returns : goal.returns
returns c =
    rw (c.put_u8-2.ensures, c.put_u8.ensures)
    (put_halves 1 1 c.args.out.now c.args.at c.args.n c.requires)
