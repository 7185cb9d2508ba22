use native.Mathlib.Omega.{arith}
use Rattle.fdtd.proofs.Singles.{lone_set}
use Rattle.magnetic.proofs.Shorts.{moved_on, stood}
use Rattle.magnetic.proofs.short.component.Goals as goal

pub returns-then-moves : goal.returns-then-moves
returns-then-moves c =
    let a = c.args in
    let curl = c.curl_along-curl.ensures in
    moved_on a.g a.e.now a.mem.now a.cell a.us a.ut a.moves a.ks a.kt a.f a.h.now c.if-moves.true curl.value (lone_set _ _ (omega (arith, c.requires)) c.magnetic_value.ensures) curl.both

pub returns-else-moves : goal.returns-else-moves
returns-else-moves c =
    let a = c.args in
    stood a.g a.e.now a.mem.now a.cell a.us a.ut a.moves a.ks a.kt a.f a.h.now c.if-moves.false
