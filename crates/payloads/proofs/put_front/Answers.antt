use Rattle.codec.specs.Bytes.{total, bits}
use mathlib.Core.Path.{refl}
use mathlib.Core.List.{[], ◌∷◌}
use Rattle.codec.proofs.Row.{put_row}
use Rattle.payloads.proofs.put_front.Goals as goal

pub returns : goal.returns
unfolding total
returns c =
    let a = c.args in
    rw (c.put_byte.ensures, c.put_f64-3.ensures, c.put_f64-2.ensures, c.put_f64.ensures)
    (put_row a.out.now a.at 8 (bits a.eps_inf) (8 ∷ 8 ∷ 1 ∷ []) (bits a.sigma ∷ bits a.mu_r ∷ a.pole_count ∷ []) refl c.requires)
