use Rattle.std.proofs.Common.{◌<◌, length, refl, ap, ◌∙◌, arith}
use Rattle.std.proofs.lemmas.List.{get_or_default}
use Rattle.differ.specs.Apart.{apart, numbers}
use Rattle.differ.proofs.Counting.{apart_more, told}
use Rattle.differ.proofs.count_apart.Goals as goal

pub loop-i-init : goal.loop-i-init
unfolding apart
loop-i-init g c = (omega arith, refl)

pub loop-i-preserved : goal.loop-i-preserved
loop-i-preserved g c =
    let e = g.T.Element in
    let a = c.args in
    let l = c.loop-i in
    let inside : l.i < length a.b.now = omega arith in
    let here = c.index-a-i.is ∙ get_or_default a.a.now l.i _ e.none c.loop-i-test.true in
    let m = told c.pattern-x.result c.pattern-y.result c.from-n.ensures in
    let there = c.index-b-i.is ∙ get_or_default a.b.now l.i _ e.none inside in (
      omega (arith, m.0),
      apart_more (numbers e.number e.none a.a.now) (numbers e.number e.none a.b.now) l.i l.invariant.1 (c.pattern-x.ensures ∙ ap e.number here) (c.pattern-y.ensures ∙ ap e.number there) m.1,
    )
