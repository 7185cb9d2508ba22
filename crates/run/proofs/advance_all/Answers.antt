use Rattle.std.proofs.Common.{rules, refl, ap}
use native.Mathlib.Omega.{arith}
use Rattle.grid.specs.declared.Clock.{Clock}
use Rattle.grid.specs.Edited.{with_clock}
use Rattle.run.proofs.Runs.{goes, ends, by_clock, still_ready, less_left}
use Rattle.run.proofs.advance_all.Goals as goal

pub loop-x-init : goal.loop-x-init
loop-x-init c = (refl, c.requires.step_ready, omega (arith, c.requires.samples_bound))

pub advance-q-requires : goal.advance-q-requires
advance-q-requires c = let w = c.loop-x.invariant in record { step_ready = w.1; steps_lt_last_step = omega (arith, w.2, c.loop-x-test.true) }

pub loop-x-preserved : goal.loop-x-preserved
loop-x-preserved c =
    let w = c.loop-x.invariant in
    let o = c.advance-q.ensures in
    let q = ap (λ (t : Clock). with_clock c.loop-x.q t) o.value in (
      goes _ _ _ c.args.samples.now _ _ _ _ c.loop-x.x-index w.0 c.loop-x-test.true q o.ids_after,
      still_ready _ _ q w.1 c.advance-q.auto.e c.advance-q.auto.h c.advance-q.auto.psi_e c.advance-q.auto.psi_h c.advance-q.auto.poles c.advance-q.auto.aux,
      less_left _ _ q _ _ c.loop-x-test.true w.2,
    )

pub returns : goal.returns
returns c =
    let loop = c.loop-x in
    by_clock _ _ _ c.args.r loop.q c.args.samples.now _ _ (ends _ _ _ c.args.samples.now loop.q _ loop.x-index loop.invariant.0 (search rules))
