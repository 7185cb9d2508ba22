use Rattle.std.proofs.Common.{◌≡◌, ◌+◌, ◌≤◌, get_or, refl, arith}
use mathlib.Core.Bool.{Bool, true, false, not, beq}
use borrow.Author.Count.{below_more}
use lib.Ieee.{nan, eq}
use Rattle.root.specs.Rounded.{zero_f}
use Rattle.fdtd.proofs.turns.first_place.Goals as goal

differs : (x y : Bool) → beq x y ≡ false → x ≡ not y
differs true true h = cc
differs true false h = refl
differs false true h = refl
differs false false h = cc

pub loop-i-preserved : goal.loop-i-preserved
loop-i-preserved c =
    let l = c.loop-i in
    let a = c.args in
    λ k g h. below_more (λ k. a.a ≤ k → eq (get_or a.tab.now (a.t + k) nan) zero_f ≡ not a.zero) l.i (λ k h g. l.invariant k g h) (λ g. differs _ _ c.if-tab-t.false) k h g

pub returns-then-tab-t : goal.returns-then-tab-t
returns-then-tab-t c = let l = c.loop-i in record { from = omega arith; upto = omega arith; all = l.invariant }

pub returns : goal.returns
returns c = let l = c.loop-i in record { from = omega arith; upto = omega arith; all = λ k g h. l.invariant k g (omega arith) }
