use Rattle.grid.specs.Edited.{with_clock}
use Rattle.grid.specs.Stores.{stores}
use native.Mathlib.Omega.{arith}
use Rattle.step.proofs.Judged.{ready_by}
use Rattle.step.proofs.step.Goals as goal

pub advance-moved-requires : goal.advance-moved-requires
advance-moved-requires c =
    let a = c.args in
    let fit = ready_by (with_clock a.r a.clock) (stores a.e.now a.h.now a.media.now a.psi_e.now a.psi_h.now a.tables.now a.poles.now a.aux.now a.ids.now) 1 c.lengths_of-lent.ensures c.in_ok-step_fault.ensures in
    record { step_ready = fit.0; steps_lt_last_step = omega (arith, fit.1) }
