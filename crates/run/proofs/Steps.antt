-- A run that is accepted is its steps: the call of one step is accepted for each sample, and the run is what they come to one after another. Assumes nothing.
use Prim.Native.Nat.{ℕ, suc, ◌+◌}
use native.Mathlib.Omega.{arith}
use mathlib.Core.Path.{◌≡◌, refl}
use mathlib.Core.List.{List, ◌∷◌}
use lib.Dec.{leb}
use lib.ListN.{length}
use lib.Ieee.{Float}
use borrow.Author.Tests.{leb-true, le-leb}
use Rattle.grid.specs.declared.Record.{Record}
use Rattle.grid.specs.declared.stores.Lengths.{Lengths}
use Rattle.grid.specs.Stores.{Stores, lengths_of, fault_with, outcome}
use Rattle.grid.proofs.Tests.{first_none, or_none}
use Rattle.step.specs.Step.{last_step, fresh_ids, step_fault, stepped, ticked, step_call}
use Rattle.run.specs.Run.{ran}

-- where more steps are left, one is
one_left : (r : Record) (l : Lengths) (ids : List ℕ) (n : ℕ) → step_fault r l ids (suc n) ≡ 0 → step_fault r l ids 1 ≡ 0
unfolding step_fault
one_left r l ids n e =
    let four = or_none (fault_with r l) _ e in
    let fresh = first_none (fresh_ids r.built_count ids) 7 _ four.1 in
    let left = leb-true (r.clock.steps + suc n) last_step (first_none (leb (r.clock.steps + suc n) last_step) 10 0 fresh.1).0 in
    rw (four.0, fresh.0, le-leb (r.clock.steps + 1) last_step (omega arith))

module _ (eps0 mu0 c0 : Float) (r : Record) (x : Float) (xs : List Float) (s : Stores) where
  pub first_step : step_fault r (lengths_of s) s.ids (length (x ∷ xs)) ≡ 0 → step_call eps0 mu0 c0 r x s ≡ outcome 0 (ticked r) (stepped eps0 mu0 c0 r x s)
  unfolding step_call
  first_step e = rw (one_left r (lengths_of s) s.ids (length xs) e)

  pub then_rest : ran eps0 mu0 c0 r (x ∷ xs) s ≡ ran eps0 mu0 c0 (ticked r) xs (stepped eps0 mu0 c0 r x s)
  unfolding ran
  then_rest = refl
