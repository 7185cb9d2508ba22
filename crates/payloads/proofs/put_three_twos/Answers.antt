use Rattle.codec.specs.Bytes.{total}
use mathlib.Core.Path.{refl}
use mathlib.Core.List.{[], ◌∷◌}
use Rattle.codec.proofs.Row.{put_row}
use Rattle.payloads.proofs.put_three_twos.Goals as goal

pub returns : goal.returns
unfolding total
returns c =
    let a = c.args in
    rw (c.put_two-3.ensures, c.put_two-2.ensures, c.put_two.ensures)
    (put_row a.out.now a.at 2 a.a (2 ∷ 2 ∷ []) (a.b ∷ a.c ∷ []) refl c.requires)
