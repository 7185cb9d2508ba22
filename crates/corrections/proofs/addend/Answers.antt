use Prim.Native.Nat.{◌+◌, ◌*◌}
use mathlib.Core.Bool.{Bool, cond}
use mathlib.Core.Path.{sym, ap, ◌∙◌}
use lib.ListN.{get_or}
use lib.Ieee.{nan}
use Rattle.tfsf.specs.Corrections.{added_h, added_e}
use Rattle.corrections.specs.Inner.Faces.{addend}
use Rattle.corrections.proofs.addend.Goals as goal

pub returns-then-w : goal.returns-then-w
unfolding addend
returns-then-w c =
    let a = c.args in
    let n = a.w.n in
    let m = a.media.now in
    c.added_h.ensures
    ∙ ap (λ (b : Bool). cond b (added_h a.w.unit a.w.dt a.f (get_or m (n + a.p) nan) a.x) (added_e a.w.unit a.w.dt a.f (get_or m a.p nan) (get_or m (2 * n + a.p) nan) a.x))
    (sym c.if-w.true)

pub returns-else-w : goal.returns-else-w
unfolding addend
returns-else-w c =
    let a = c.args in
    let n = a.w.n in
    let m = a.media.now in
    c.added_e.ensures
    ∙ ap (λ (b : Bool). cond b (added_h a.w.unit a.w.dt a.f (get_or m (n + a.p) nan) a.x) (added_e a.w.unit a.w.dt a.f (get_or m a.p nan) (get_or m (2 * n + a.p) nan) a.x))
    (sym c.if-w.false)
