use Prim.Native.Nat.{◌-◌}
use Rattle.root.specs.Rounded.{zero_f}
use native.Mathlib.Omega.{arith}
use Rattle.electric.proofs.Edges.{fill_front, fill_span, edged}
use Rattle.electric.proofs.row.fill_row.Goals as goal

pub returns : goal.returns
returns c =
    let pre = c.requires in
    let a = c.args in
    edged a.w _ _ _ _ _ _ _ a.q a.n a.a a.z pre.0 pre.1
    (fill_front a.e.now a.q a.a zero_f (omega (arith, pre)) c.fill.ensures)
    c.fields.ensures
    (fill_span _ a.q a.z (a.n - a.z) zero_f c.fill-2.ensures (omega arith) (omega (arith, pre)) (omega (arith, pre, c.fill.auto.s, c.fields.auto.e)))
