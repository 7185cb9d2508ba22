use Rattle.std.proofs.Common.{◌≡◌, ◌<◌, length, get_or, replicate, refl, arith}
use Rattle.std.proofs.lemmas.List.{get_or_default}
use Rattle.codec.proofs.Loops.{written_none, written_more, row_written}
use Rattle.heads.specs.Inner.Parts.{float_widths}
use Rattle.payloads.proofs.put_floats.Goals as goal

pub loop-i-init : goal.loop-i-init
loop-i-init c = let a = c.args in written_none 8 (λ k. k) a.out.now a.at a.n

pub loop-i-preserved : goal.loop-i-preserved
loop-i-preserved c =
    let a = c.args in
    let l = c.loop-i in
    let long : length a.n ≡ 5 = omega arith in
    let inside : l.i < length a.n = omega arith in
    written_more 8 (λ k. k) a.out.now a.at a.n l.i (get_or a.n l.i 0) (omega (arith, long, c.requires)) inside (get_or_default a.n l.i 0 _ inside) l.invariant c.put_u64.ensures

pub returns : goal.returns
returns c =
    let a = c.args in
    let long : length a.n ≡ 5 = omega arith in
    let same : float_widths ≡ replicate (length a.n) 8 = rw long refl in
    row_written 8 a.out.now a.at a.n float_widths same (omega arith) c.loop-i.invariant
