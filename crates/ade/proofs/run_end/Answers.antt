use Rattle.std.proofs.Common.{◌≡◌, ℕ, subst, arith}
use Rattle.ade.specs.Inner.Runs.{RunEnd}
use Rattle.ade.proofs.run_end.Goals as goal

pub returns : goal.returns
returns c =
    let args = c.args in
    let q : c.loop-z.z ≡ args.n = omega arith in
    subst (λ (z : ℕ). RunEnd args.ids.now args.n args.a z) q c.loop-z.invariant
