use mathlib.Core.Path.{refl}
use native.Mathlib.Omega.{arith}
use Rattle.fdtd.proofs.Singles.{lone_set}
use Rattle.electric.proofs.Shorts.{moved_on, walled_off}
use Rattle.electric.proofs.short.component.Goals as goal

pub returns-then-moves : goal.returns-then-moves
returns-then-moves c =
    let a = c.args in
    let curl = c.curl_along-curl.ensures in
    moved_on a.g a.x.now.h.now a.mem.now a.cell a.ds a.dt a.moves a.ks a.kt a.x.now.w a.x.now.poles.now a.f.ca a.f.cb a.e.now c.if-moves.true curl.value c.term_of.ensures c.electric_value.ensures (lone_set _ _ (omega (arith, c.requires)) refl) curl.both

pub returns-else-moves : goal.returns-else-moves
returns-else-moves c =
    let a = c.args in
    walled_off a.g a.x.now.h.now a.mem.now a.cell a.ds a.dt a.moves a.ks a.kt a.x.now.w a.x.now.poles.now a.f.ca a.f.cb a.e.now c.if-moves.false (lone_set _ _ (omega (arith, c.requires)) refl)
