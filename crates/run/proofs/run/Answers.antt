use Rattle.grid.specs.Stores.{stores}
use Rattle.step.proofs.Judged.{ready_by}
use Rattle.run.proofs.run.Goals as goal

pub advance_all-moved-requires : goal.advance_all-moved-requires
advance_all-moved-requires c =
    let a = c.args in
    let fit = ready_by a.r (stores a.e.now a.h.now a.media.now a.psi_e.now a.psi_h.now a.tables.now a.poles.now a.aux.now a.ids.now) _ c.lengths_of-lent.ensures c.in_ok-step_fault.ensures in
    record { step_ready = fit.0; samples_bound = fit.1 }
