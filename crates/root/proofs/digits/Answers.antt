use Rattle.root.proofs.Recurrence.{cap, one_at, none_at}
use Rattle.std.proofs.Common.{arith}
use Rattle.root.proofs.digits.Goals as goal
use Rattle.root.proofs.digits.Goals.{else-t-s, then-t-s}

pub loop-preserved : goal.loop-preserved
loop-preserved c =
    let h = c.loop.invariant in
    let l = c.loop-test.true in
    elim c.if-t-s.branch [ then-t-s w ↦ one_at _ _ _ _ _ _ _ h l w.if-t-s.true w.q-is w.r-is | else-t-s w ↦ none_at _ _ _ _ _ _ _ h l w.if-t-s.false w.q-is w.r-is ]

pub overflow_mul-s : goal.overflow_mul-s
overflow_mul-s c = omega (arith, cap _ _ _ _ _ c.loop.invariant c.loop-test.true)

pub overflow_add-s : goal.overflow_add-s
overflow_add-s c = omega (arith, cap _ _ _ _ _ c.loop.invariant c.loop-test.true)

pub overflow_mul-t : goal.overflow_mul-t
overflow_mul-t c = omega (arith, cap _ _ _ _ _ c.loop.invariant c.loop-test.true)

pub overflow_add-t : goal.overflow_add-t
overflow_add-t c = omega (arith, cap _ _ _ _ _ c.loop.invariant c.loop-test.true)
