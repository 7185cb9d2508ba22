use Rattle.tfsf.specs.Line.{ex_inner}
use Rattle.tfsf.specs.Inner.Spans.{Spanned}
use mathlib.Core.Path.{◌≡◌, subst}
use Prim.Native.Nat.{ℕ, ◌-◌}
use native.Mathlib.Omega.{arith}
use Rattle.tfsf.proofs.line.move_e.Goals as goal

pub returns : goal.returns
returns c =
    let a = c.args in
    let l = c.loop-a in
    let e : l.a ≡ a.n - 1 = omega arith in
    subst (λ (i : ℕ). Spanned (ex_inner a.factor a.n a.line.now) 1 i a.line.now l.line) e l.invariant
