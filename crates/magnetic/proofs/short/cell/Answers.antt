use mathlib.Core.Path.{refl}
use Rattle.magnetic.proofs.Shorts.{cell_shared}
use Rattle.magnetic.proofs.short.cell.Goals as goal

pub returns : goal.returns
returns c =
    let a = c.args in
    let pre = c.requires in
    cell_shared a.x.now.mu0 a.x.now.g a.x.now.e.now a.x.now.media.now a.x.now.tab.now a.s a.t a.i pre.fit.laid _ _ _ _ _ _ _ _ a.v pre.known pre.i_lt_n
    c.next_of.ensures.0 c.has_next-gor.ensures c.coef_of-kr.ensures refl c.factor_of-f.ensures
    refl refl refl c.turned-gs.ensures c.turned-gt.ensures
    c.component.ensures c.component-2.ensures c.component-3.ensures
