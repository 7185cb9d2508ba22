use Rattle.corrections.proofs.Adding.{row_none, row_more}
use Rattle.cells.specs.Inner.Blocks.{on}
use Rattle.corrections.specs.Inner.Faces.{add_row, addend}
use native.Mathlib.Omega.{arith}
use Prim.Native.Nat.{ℕ, ◌+◌}
use mathlib.Core.Path.{◌≡◌, ap, ◌∙◌}
use Rattle.corrections.proofs.add_row.Goals as goal

pub loop-i-init : goal.loop-i-init
loop-i-init c =
    let a = c.args in
    row_none a.q a.w.nx a.f.b.i0 (λ i. addend a.w a.f a.media.now a.x (a.p + i)) a.s.now c.requires.2

pub loop-i-preserved : goal.loop-i-preserved
loop-i-preserved c =
    let a = c.args in
    let l = c.loop-i in
    row_more a.q a.w.nx a.f.b.i0 (λ i. addend a.w a.f a.media.now a.x (a.p + i)) a.s.now c.requires.2 l.i l.s _ (omega arith) (omega arith) l.invariant c.addend.ensures

pub returns : goal.returns
returns c =
    let a = c.args in
    let l = c.loop-i in
    let e : l.i ≡ a.f.b.i1 = omega arith in
    l.invariant ∙ ap (λ (k : ℕ). on a.q a.w.nx (add_row a.w.nx a.f.b.i0 k (λ i. addend a.w a.f a.media.now a.x (a.p + i))) a.s.now) e
