use mathlib.Core.Path.{refl}
use Rattle.electric.proofs.Shorts.{cell_shared}
use Rattle.electric.proofs.short.cell.Goals as goal

pub returns : goal.returns
returns c =
    let a = c.args in
    let pre = c.requires in
    let f = c.weights_of-f in
    cell_shared a.x.now.eps0 a.x.now.w a.x.now.g a.x.now.h.now a.x.now.media.now a.x.now.tab.now a.x.now.poles.now a.s a.t a.i pre.fit.laid _ _ _ _ _ _ _ _ a.v pre.known pre.i_lt_n
    f.result c.previous_of.ensures.0 c.free_at-gor.ensures c.coef_of-kr.ensures refl f.ensures.0 f.ensures.1
    refl refl refl c.turned-gs.ensures c.turned-gt.ensures
    c.component.ensures c.component-2.ensures c.component-3.ensures
