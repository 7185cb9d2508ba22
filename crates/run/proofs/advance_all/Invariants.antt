use Rattle.std.proofs.Common.{◌≡◌, ◌≤◌, ◌+◌, ◌-◌, length, drop}
use Rattle.grid.specs.Stores.{stores}
use Rattle.step.specs.Step.{last_step}
use Rattle.step.specs.Inner.Ready.{StepReady}
use Rattle.run.specs.Run.{ran}
use Rattle.run.proofs.advance_all.Given as goal

abbrev pub invariant-loop-x : goal.invariant-loop-x
invariant-loop-x l = let v = l.vacuum in (
    (ran v.eps0 v.mu0 v.c0 l.q (drop l.x-index l.samples) (stores l.e l.h l.media l.psi_e l.psi_h l.tables l.poles l.aux l.ids) ≡ ran v.eps0 v.mu0 v.c0 l.initial.q l.samples (stores l.initial.e l.initial.h l.media l.initial.psi_e l.initial.psi_h l.tables l.initial.poles l.initial.aux l.ids))
    × StepReady l.q (stores l.e l.h l.media l.psi_e l.psi_h l.tables l.poles l.aux l.ids)
    × (l.q.clock.steps + (length l.samples - l.x-index) ≤ last_step)
    )
