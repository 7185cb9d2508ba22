use Prim.Native.Nat.{ℕ, ◌+◌, ◌-◌, ◌*◌}
use native.Mathlib.Omega.{arith}
use mathlib.Core.Path.{◌≡◌, ap}
use lib.ListN.{take, drop}
use Rattle.codec.specs.Lists.{part}
use Rattle.heads.specs.Numbers.{gh_length, ml_length}
use Rattle.block.proofs.Turns.{fine_inside, fine_outside}
use Rattle.block.proofs.entry_fine.Goals as goal

pub returns-then-i-count : goal.returns-then-i-count
returns-then-i-count c =
    let a = c.args in
    fine_inside a.b.now a.i a.count c.requires.2 _ _ c.if-i-count.true c.get_ml-n.ensures c.ml_shaped.ensures

pub returns : goal.returns
unfolding part
returns c =
    let a = c.args in
    let at : ℕ = gh_length + ml_length * a.i in
    let e : at + ml_length - at ≡ ml_length = omega arith in
    fine_outside a.b.now a.i a.count c.requires.2 _ _ c.if-i-count.false (ap (λ k. take k (drop at a.b.now)) e) c.all_zero.ensures
