use Rattle.std.proofs.Common.{◌≡◌, ◌+◌, ◌*◌, ◌<◌, length, get_or, replicate, refl, ap, ◌∙◌, arith}
use Rattle.codec.specs.Lists.{put}
use Rattle.codec.specs.Bytes.{le}
use Rattle.std.proofs.lemmas.List.{get_or_default}
use Rattle.codec.proofs.Loops.{written_none, written_more, row_written}
use Rattle.heads.specs.Inner.Parts.{flag_widths}
use Rattle.payloads.proofs.put_flags.Goals as goal

pub loop-i-init : goal.loop-i-init
loop-i-init c = let a = c.args in written_none 1 (λ k. k) a.out.now a.at a.n

pub loop-i-preserved : goal.loop-i-preserved
loop-i-preserved c =
    let a = c.args in
    let l = c.loop-i in
    let long : length a.n ≡ 7 = omega arith in
    let inside : l.i < length a.n = omega arith in
    let place : a.at + l.i ≡ a.at + 1 * l.i = omega arith in
    written_more 1 (λ k. k) a.out.now a.at a.n l.i (get_or a.n l.i 0) (omega (arith, long, c.requires)) inside (get_or_default a.n l.i 0 _ inside) l.invariant (c.put_byte.ensures ∙ ap (λ p. put l.out p (le 1 (get_or a.n l.i 0))) place)

pub returns : goal.returns
returns c =
    let a = c.args in
    let long : length a.n ≡ 7 = omega arith in
    let same : flag_widths ≡ replicate (length a.n) 1 = rw long refl in
    row_written 1 a.out.now a.at a.n flag_widths same (omega arith) c.loop-i.invariant
