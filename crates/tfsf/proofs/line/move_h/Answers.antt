use Rattle.tfsf.proofs.Ends.{hy_span}
use Rattle.tfsf.specs.Inner.Spans.{Spanned}
use mathlib.Core.Path.{◌≡◌, subst}
use Prim.Native.Nat.{ℕ, ◌+◌, ◌-◌}
use native.Mathlib.Omega.{arith}
use Rattle.tfsf.proofs.line.move_h.Goals as goal

pub returns : goal.returns
returns c =
    let a = c.args in
    let l = c.loop-a in
    let e : l.a ≡ a.n - 1 = omega arith in
    subst (λ (i : ℕ). Spanned (hy_span a.factor a.n a.line.now) a.n (a.n + i) a.line.now l.line) e l.invariant
