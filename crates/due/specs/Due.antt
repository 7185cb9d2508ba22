-- When a step is refused, and the clock after one. Definitions only.
use Rattle.refusals.specs.declared.Refusal.TheVariants.{StaleMaterial, SpentClock}
use Rattle.refusals.specs.Refusals.{number}
use Rattle.std.specs.Prelude.{ℕ, ◌+◌, Bool, ◌||◌, List, leb, ltb, eqb}
use Rattle.root.specs.Rounded.{◌⊕◌}
use Rattle.codec.specs.Lists.{every}
use Rattle.grid.specs.declared.Record.{Record}
use Rattle.grid.specs.declared.stores.Lengths.{Lengths}
use Rattle.grid.specs.Edited.{with_clock}
use Rattle.grid.specs.Fault.{first}
use Rattle.grid.specs.Stores.{or_else, fault_with}

-- ---- the refusals
abbrev pub stale_material : ℕ
stale_material = number StaleMaterial

abbrev pub spent_clock : ℕ
spent_clock = number SpentClock

abbrev pub last_step : ℕ
last_step = 4294967295

-- no id is at or above the built count, or dispersion is off (the built count is 0)
unfoldable pub fresh_ids : (built : ℕ) → List ℕ → Bool
fresh_ids built ids = eqb built 0 || every (λ id. ltb id built) ids

-- n steps to be taken
unfoldable pub step_fault : Record → Lengths → List ℕ → (n : ℕ) → ℕ
step_fault r l ids n =
    or_else (fault_with r l)
    (first (fresh_ids r.built_count ids) stale_material
    (first (leb (r.clock.steps + n) last_step) spent_clock 0))

-- ---- the clock after a step
abbrev pub ticked : Record → Record
ticked r = with_clock r (record { time = r.clock.time ⊕ r.spacings.dt; steps = r.clock.steps + 1 })
