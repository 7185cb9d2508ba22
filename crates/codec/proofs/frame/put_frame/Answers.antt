use mathlib.Core.Path.{refl}
use mathlib.Core.List.{◌∷◌, []}
use Rattle.codec.specs.Bytes.{total}
use Rattle.codec.proofs.Row.{put_row}
use Rattle.codec.proofs.frame.put_frame.Goals as goal

pub returns : goal.returns
unfolding total
returns c =
    let a = c.args in
    rw (c.put_u32.ensures, c.put_u16.ensures)
    (put_row a.out.now a.at 2 a.mark (4 ∷ []) (a.len ∷ []) refl c.requires)
