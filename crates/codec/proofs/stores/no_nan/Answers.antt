use Rattle.std.proofs.Common.{◌≡◌, refl, sym, ap, ◌∙◌, arith}
use Rattle.codec.specs.Bytes.{fine, all_pass}
use Rattle.codec.proofs.Loops.{passed_more}
use Rattle.codec.proofs.stores.no_nan.Goals as goal

pub loop-i-init : goal.loop-i-init
unfolding all_pass
loop-i-init c = (omega arith, λ z. refl)

pub loop-i-preserved : goal.loop-i-preserved
loop-i-preserved c =
    let a = c.args in
    let l = c.loop-i in
    let n = c.nan_bit-nans in (
      omega (arith, n.ensures.0),
      λ z.
          let old : l.nans ≡ 0 = omega (arith, z) in
          let new : n.result ≡ 0 = omega (arith, z) in
          passed_more 8 fine a.s.now a.at l.i (l.invariant.1 old) (ap fine (sym c.get_u64.ensures) ∙ n.ensures.1 new),
    )
