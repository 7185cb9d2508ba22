use mathlib.Core.Path.{refl}
use mathlib.Core.List.{[], ◌∷◌}
use native.Mathlib.Omega.{arith}
use Rattle.codec.specs.Bytes.{total, bits}
use Rattle.codec.proofs.Row.{put_row}
use Rattle.block.specs.Block.{clock_place, clock_bytes, clock_put}
use Rattle.block.proofs.put_clock.Goals as goal

pub returns : goal.returns
unfolding total clock_put clock_bytes
returns c =
    let a = c.args in
    rw (c.put_u32.ensures, c.put_f64.ensures) (put_row a.b.now clock_place 8 (bits a.c.time) (4 ∷ []) (a.c.steps ∷ []) refl (omega (arith, c.requires)))
