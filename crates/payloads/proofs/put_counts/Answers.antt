use Rattle.codec.specs.Bytes.{total}
use mathlib.Core.Path.{refl}
use mathlib.Core.List.{[], ◌∷◌}
use Rattle.codec.proofs.Row.{put_row}
use Rattle.payloads.proofs.put_counts.Goals as goal

pub returns : goal.returns
unfolding total
returns c =
    let a = c.args in
    rw (c.put_byte-4.ensures, c.put_byte-3.ensures, c.put_byte-2.ensures, c.put_byte.ensures)
    (put_row a.out.now a.at 1 a.a (1 ∷ 1 ∷ 1 ∷ []) (a.b ∷ a.c ∷ a.d ∷ []) refl c.requires)
