use mathlib.Core.Path.{◌≡◌, ap, ◌∙◌}
use mathlib.Core.List.{◌∷◌, []}
use Prim.Native.Nat.{◌%◌}
use native.Mathlib.Omega.{arith}
use Rattle.codec.specs.Lists.{put}
use Rattle.codec.specs.Bytes.{le}
use Rattle.codec.proofs.Lists.{put_one}
use Rattle.codec.proofs.numbers.put_u8.Goals as goal

pub returns : goal.returns
unfolding le
returns c =
    let a = c.args in
    let e : a.n ≡ a.n % 256 = omega arith in
    put_one _ _ _ (omega arith) ∙ ap (λ v. put a.out.now a.at (v ∷ [])) e
