use Rattle.std.proofs.Common.{refl, sym, ap, ◌∙◌}
use Rattle.codec.specs.Bytes.{fine, all_pass}
use Rattle.codec.proofs.Loops.{passed_more, passed_stop}
use Rattle.codec.proofs.stores.check_each.Goals as goal

pub loop-i-init : goal.loop-i-init
unfolding all_pass
loop-i-init c = refl

pub returns-then-not-is_fine : goal.returns-then-not-is_fine
returns-then-not-is_fine c =
    let a = c.args in
    sym (passed_stop 8 fine a.s.now a.at a.n c.loop-i.i c.loop-i-test.true
    (ap fine (sym c.get_u64.ensures) ∙ sym c.is_fine.ensures ∙ c.if-not-is_fine.true))

pub loop-i-preserved : goal.loop-i-preserved
loop-i-preserved c =
    let a = c.args in
    let l = c.loop-i in
    passed_more 8 fine a.s.now a.at l.i l.invariant (ap fine (sym c.get_u64.ensures) ∙ sym c.is_fine.ensures ∙ c.if-not-is_fine.false)
