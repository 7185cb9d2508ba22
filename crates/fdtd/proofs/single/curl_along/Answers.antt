use mathlib.Core.Path.{refl, ◌∙◌}
use mathlib.Core.Bool.{true}
use Rattle.fdtd.proofs.Singles.{curl_taken, memories_taken}
use Rattle.fdtd.proofs.single.curl_along.Goals as goal

pub returns : goal.returns
returns c =
    let a = c.args in
    let curl = c.curl_of.ensures in
    let x = c.deriv_of-x.ensures in
    let y = c.deriv_of-y.ensures in
    let g = a.g in
    record { value = curl.value ∙ curl_taken g.r g.s g.t g.count a.f.now a.mem.now a.cell a.los a.his a.lot a.hit a.ks a.kt x y; both = memories_taken g.r g.s g.t g.count a.f.now a.mem.now a.cell a.los a.his a.lot a.hit a.ks a.kt x y true refl curl.both }
