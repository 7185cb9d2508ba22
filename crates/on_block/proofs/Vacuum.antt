-- The constants of vacuum that the code took by the record's field. Assumes nothing.
use mathlib.Core.Path.{◌≡◌, ap, ◌∙◌}
use mathlib.Core.List.{List}
use lib.Ieee.{Float}
use Rattle.root.specs.declared.vacuum.Vacuum.{Vacuum}
use Rattle.root.specs.Constants.{vacuum_of}
use Rattle.grid.specs.declared.Record.{Record}
use Rattle.grid.specs.Vacuum.{eps_of, mu_of, light_of}
use Rattle.grid.specs.Stores.{Stores, Outcome}
use Rattle.step.specs.Step.{step_call}
use Rattle.run.specs.Run.{run_call}

module _ (r : Record) (v : Vacuum) (own : v ≡ vacuum_of r.constants) where
  pub step_vacuum : {o : Outcome Stores} (x : Float) (s : Stores) → o ≡ step_call v.eps0 v.mu0 v.c0 r x s →
      o ≡ step_call (eps_of r) (mu_of r) (light_of r) r x s
  step_vacuum x s e = e ∙ ap (λ (w : Vacuum). step_call w.eps0 w.mu0 w.c0 r x s) own

  pub run_vacuum : {o : Outcome Stores} (xs : List Float) (s : Stores) → o ≡ run_call v.eps0 v.mu0 v.c0 r xs s →
      o ≡ run_call (eps_of r) (mu_of r) (light_of r) r xs s
  run_vacuum xs s e = e ∙ ap (λ (w : Vacuum). run_call w.eps0 w.mu0 w.c0 r xs s) own
