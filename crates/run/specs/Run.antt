-- Many steps in one call: all of them, a step for each sample, or none. It is refused where its first step would be, or where the clock has not as many
-- steps left. Definitions only.
use Rattle.std.specs.Prelude.{List, [], ◌∷◌, length, Float}
use Rattle.grid.specs.declared.Record.{Record}
use Rattle.grid.specs.Stores.{Stores, lengths_of, Outcome, outcome, settle}
use Rattle.step.specs.Step.{step_fault, stepped, ticked}

unfoldable pub ran : (eps0 mu0 c0 : Float) → Record → (samples : List Float) → Stores → Outcome Stores
ran eps0 mu0 c0 r [] s = outcome 0 r s
ran eps0 mu0 c0 r (x ∷ xs) s = ran eps0 mu0 c0 (ticked r) xs (stepped eps0 mu0 c0 r x s)

unfoldable pub run_call : (eps0 mu0 c0 : Float) → Record → (samples : List Float) → Stores → Outcome Stores
run_call eps0 mu0 c0 r samples s =
    let o = ran eps0 mu0 c0 r samples s in
    settle (step_fault r (lengths_of s) s.ids (length samples)) r s o.study o.rest
