use Rattle.std.proofs.Common.{◌≡◌, ◌+◌, ◌*◌, ap, ◌∙◌, arith}
use Rattle.codec.specs.Lists.{part}
use Rattle.codec.specs.Bytes.{unle}
use Rattle.codec.proofs.Loops.{row_none, row_more, row_all}
use Rattle.reads.proofs.bytes_at.Goals as goal

pub loop-i-init : goal.loop-i-init
loop-i-init g c = row_none 1 g.row.N c.args.s.now c.args.at

pub loop-i-preserved : goal.loop-i-preserved
loop-i-preserved g c =
    let a = c.args in
    let l = c.loop-i in
    let place : a.at + l.i ≡ a.at + 1 * l.i = omega arith in
    row_more 1 g.row.N a.s.now a.at l.i c.loop-i-test.true l.invariant (c.byte_at.ensures ∙ ap (λ p. unle (part a.s.now p 1)) place)

pub returns : goal.returns
returns g c = row_all 1 g.row.N c.args.s.now c.args.at (omega arith) c.loop-i.invariant
