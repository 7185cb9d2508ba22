use Rattle.std.proofs.Common.{◌≡◌, ◌+◌, ap, ◌∙◌, set, replicate, arith}
use Rattle.grid.proofs.Filling.{fill_none, fill_more}
use Rattle.codec.specs.Lists.{put}
use Rattle.heads.specs.Numbers.{ml_length}
use Rattle.block.proofs.put_zeros.Goals as goal

pub loop-i-init : goal.loop-i-init
loop-i-init c = fill_none _ _ 0

pub loop-i-preserved : goal.loop-i-preserved
loop-i-preserved c =
    let a = c.args in
    let l = c.loop-i in
    ap (λ s. set s (a.at + l.i) 0) l.invariant ∙ fill_more a.b.now a.at l.i 0 (omega arith)

pub returns : goal.returns
returns c =
    let a = c.args in
    let e : c.loop-i.i ≡ ml_length = omega arith in
    c.loop-i.invariant ∙ ap (λ k. put a.b.now a.at (replicate k 0)) e
