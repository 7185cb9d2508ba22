-- A run that is accepted is its steps, however many: each of them is accepted, on what the one before it left, and the last leaves what the run leaves. Assumes nothing.
use Prim.Native.Nat.{ℕ, zero, suc, ◌+◌}
use native.Mathlib.Omega.{arith}
use mathlib.Core.Path.{◌≡◌, refl, sym, ap, ◌∙◌}
use mathlib.Core.Option.{none, some}
use mathlib.Core.List.{List, [], ◌∷◌}
use lib.Dec.{leb}
use lib.ListN.{length}
use lib.Ieee.{Float}
use borrow.Author.Tests.{leb-true, le-leb}
use Rattle.study.specs.History.{doing, Replay, stuck, reached, replay, extend, grow}
use Rattle.grid.specs.declared.Record.{Record}
use Rattle.grid.specs.declared.stores.Lengths.{Lengths}
use Rattle.grid.specs.Fault.{fault_of, first}
use Rattle.grid.specs.Vacuum.{eps_of, mu_of, light_of}
use Rattle.grid.specs.Stores.{Stores, lengths_of, store_lengths, same_lengths, lent_fault, fault_lent, fault_with, or_else, Outcome, settle}
use Rattle.grid.proofs.Tests.{first_none, or_none}
use Rattle.step.specs.Step.{stale_material, spent_clock, last_step, fresh_ids, step_fault, stepped, ticked}
use Rattle.run.specs.Run.{ran, run_call}
use Rattle.run.proofs.Steps.{first_step}
use Rattle.study.specs.World.{Study, step, run, Asked, Answer, nothing}
use Rattle.study.specs.Calls.{lifted, form, engine}
use Rattle.study.specs.Demand.{steps_on, silent_on}
use Rattle.study.proofs.Lengths.{step_long}
use Rattle.study.proofs.Faultless.{tick_whole}

-- after a step, the steps that are left are accepted
module _ (r : Record) (x : Float) (s : Stores) (n : ℕ) where
  abbrev s' : Stores
  s' = stepped (eps_of r) (mu_of r) (light_of r) r x s

  pub rest_left : step_fault r (lengths_of s) s.ids (suc n) ≡ 0 → step_fault (ticked r) (lengths_of s') s'.ids n ≡ 0
  unfolding step_fault fault_lent store_lengths stepped
  rest_left e =
      let long = step_long (eps_of r) (mu_of r) (light_of r) r x s (suc n) e in
      let four = or_none (fault_with r (lengths_of s)) _ e in
      let own = or_none (fault_of r) _ four.0 in
      let fresh = first_none (fresh_ids r.built_count s.ids) 7 _ four.1 in
      let left = leb-true (r.clock.steps + suc n) last_step (first_none (leb (r.clock.steps + suc n) last_step) 10 0 fresh.1).0 in
      ap (λ (f : ℕ). or_else (lent_fault f (same_lengths (lengths_of s') (store_lengths r))) (first (fresh_ids r.built_count s.ids) stale_material (first (leb (r.clock.steps + 1 + n) last_step) spent_clock 0)))
      (tick_whole r own.0)
      ∙ ap (λ (l : Lengths). or_else (lent_fault 0 (same_lengths l (store_lengths r))) (first (fresh_ids r.built_count s.ids) stale_material (first (leb (r.clock.steps + 1 + n) last_step) spent_clock 0))) long
      ∙ rw (own.1, fresh.0, le-leb (r.clock.steps + 1 + n) last_step (omega arith))

-- the law for every number of steps: the calls of the steps, one on what the other left
module _ where
  abbrev at : Record → Stores → Study
  at r s = record { rec = r; kept = s }

  steps_from : (xs : List Float) (r : Record) (s : Stores) (cs : List Asked) (ans : List Answer) → step_fault r (lengths_of s) s.ids (length xs) ≡ 0
      → replay engine cs ≡ reached ans (some (at r s))
      → replay engine (steps_on xs cs) ≡ reached (silent_on xs ans) (some (at (ran (eps_of r) (mu_of r) (light_of r) r xs s).study (ran (eps_of r) (mu_of r) (light_of r) r xs s).rest))
  unfolding ran
  steps_from [] r s cs ans e p = p
  steps_from (x ∷ xs) r s cs ans e p =
      steps_from xs (ticked r) (stepped (eps_of r) (mu_of r) (light_of r) r x s) (doing (step x) ∷ cs) (nothing ∷ ans) (rest_left r x s (length xs) e)
      (ap (extend engine (doing (step x))) p ∙ ap (λ (o : Outcome Stores). grow engine ans (lifted (form (step x)) o s)) (first_step (eps_of r) (mu_of r) (light_of r) r x xs s e))

no_reach : (ans : List Answer) (t : Study) → ◌≡◌ {A = Replay Answer Study} stuck (reached ans (some t)) → ⊥
no_reach ans t p = let z : ◌≡◌ {A = ℕ} 0 1 = cc in omega arith

-- what an accepted run was made on, and what it left
ran_on : (f : ℕ) (o : Outcome Stores) (r : Record) (s : Stores) (before ans : List Answer) (t : Study)
    → grow engine before (lifted (form (run [])) (settle f r s o.study o.rest) s) ≡ reached (nothing ∷ ans) (some t)
    → (f ≡ 0) × (before ≡ ans) × (t ≡ at o.study o.rest)
ran_on zero o r s before ans t e = (refl, cc, cc)
ran_on (suc f) o r s before ans t e = absurd (no_reach (nothing ∷ ans) t e)

pub run_steps : (xs : List Float) (cs : List Asked) (ans : List Answer) (t : Study)
    → replay engine (doing (run xs) ∷ cs) ≡ reached (nothing ∷ ans) (some t) → replay engine (steps_on xs cs) ≡ reached (silent_on xs ans) (some t)
unfolding run_call
run_steps xs cs ans t e = go (replay engine cs) refl e
  where
    go : (so : Replay Answer Study) → replay engine cs ≡ so → extend engine (doing (run xs)) so ≡ reached (nothing ∷ ans) (some t)
        → replay engine (steps_on xs cs) ≡ reached (silent_on xs ans) (some t)
    go stuck p q = absurd (no_reach (nothing ∷ ans) t q)
    go (reached before none) p q = absurd (no_reach (nothing ∷ ans) t q)
    go (reached before (some u)) p q =
        let o = ran (eps_of u.rec) (mu_of u.rec) (light_of u.rec) u.rec xs u.kept in
        let k = ran_on (step_fault u.rec (lengths_of u.kept) u.kept.ids (length xs)) o u.rec u.kept before ans t q in
        steps_from xs u.rec u.kept cs before k.0 p
        ∙ ap (λ (l : List Answer). reached (silent_on xs l) (some (at o.study o.rest))) k.1
        ∙ ap (λ (z : Study). reached (silent_on xs ans) (some z)) (sym k.2)
