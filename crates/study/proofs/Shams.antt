-- Engines that only look like one, and where each falls (document 01, "Which sham engines fall?"). Assumes nothing.
use Prim.Native.Nat.{ℕ, zero, suc, ◌+◌}
use native.Mathlib.Omega.{arith}
use mathlib.Core.Path.{◌≡◌, refl, sym, ap, ◌∙◌}
use mathlib.Core.Bool.{Bool, true, false}
use mathlib.Core.Option.{Option, some}
use mathlib.Core.List.{List}
use lib.ListN.{get_or}
use lib.Ieee.{Float, binary64, round, of_bits, of_int, add, sub, mul, div, neg, eq, nan}
use Rattle.root.specs.Constants.{eps0, mu0, c0, vacuum_of, pi, ten_minus7}
use Rattle.cells.specs.Cells.{joined}
use Rattle.grid.specs.declared.Record.{Record}
use Rattle.grid.specs.Edited.{with_region}
use Rattle.grid.specs.Vacuum.{eps_of, mu_of, light_of}
use Rattle.grid.specs.Stores.{Stores, lengths_of, settle, store_lengths}
use Rattle.opening.specs.Opening.{open_stores}
use Rattle.tfsf.specs.Line.{hy_after, line_h, ex_moved, ex_after, line_e}
use Rattle.tfsf.specs.Wave.{slab_z, restarted}
use Rattle.step.specs.Step.{step_fault, stepped, ticked, step_call, line_mid, line_end}
use Rattle.study.specs.History.{given, opening, doing, refused, accepted, Reply, Honest}
use Rattle.study.specs.World.{World, Study, study_of, lent_in, step, Answer, nothing, Room}
use Rattle.study.specs.Calls.{acts_on, settled, engine}
use Rattle.study.proofs.Standing.{no_outcome}
use Rattle.study.proofs.Worked.{cube, r₁, s₁, w₀, w₁, opened, not_opened}

-- ---- what an accepted step leaves, whatever else
step_is : (f : ℕ) (x : Float) (t u : Study) (a : Answer)
    → settled f nothing nothing (record { rec = (settle f t.rec t.kept (ticked t.rec) (stepped (eps_of t.rec) (mu_of t.rec) (light_of t.rec) t.rec x t.kept)).study; kept = (settle f t.rec t.kept (ticked t.rec) (stepped (eps_of t.rec) (mu_of t.rec) (light_of t.rec) t.rec x t.kept)).rest }) ≡ given a u
    → u ≡ record { rec = ticked t.rec; kept = stepped (eps_of t.rec) (mu_of t.rec) (light_of t.rec) t.rec x t.kept }
step_is zero x t u a e = cc
step_is (suc f) x t u a e = absurd (no_outcome (suc f) nothing a u e)

same_refusal : (f : ℕ) (r q : Record) (s z : Stores) → (settle f r s q z).refusal ≡ f
same_refusal zero r q s z = refl
same_refusal (suc f) r q s z = refl

module _ (x : Float) (w v : World) (lent back : Room) (a : Answer) (t u : Study)
    (h : Honest engine (record { call = doing (step x); handed = w; lent = lent; reply = accepted a; left = v; back = back }))
    (before : study_of w ≡ some t) (after : study_of v ≡ some u) where
  pub stepped_so : u ≡ record { rec = ticked t.rec; kept = stepped (eps_of t.rec) (mu_of t.rec) (light_of t.rec) t.rec x t.kept }
  unfolding step_call
  stepped_so =
      let k = h.gives in
      let f = step_fault t.rec (lengths_of t.kept) t.kept.ids 1 in
      let d : acts_on (step x) (some t) ≡ given a k.0 = ap (acts_on (step x)) (sym before) ∙ k.2 in
      let i : k.0 ≡ u = one k.0 u (sym k.1 ∙ after) in
      sym i ∙ step_is f x t k.0 a (ap (λ (n : ℕ). settled n nothing nothing (record { rec = (settle f t.rec t.kept (ticked t.rec) (stepped (eps_of t.rec) (mu_of t.rec) (light_of t.rec) t.rec x t.kept)).study; kept = (settle f t.rec t.kept (ticked t.rec) (stepped (eps_of t.rec) (mu_of t.rec) (light_of t.rec) t.rec x t.kept)).rest })) (sym (same_refusal f t.rec (ticked t.rec) t.kept (stepped (eps_of t.rec) (mu_of t.rec) (light_of t.rec) t.rec x t.kept))) ∙ d)
    where
      one : (p q : Study) → ◌≡◌ {A = Option Study} (some p) (some q) → p ≡ q
      one p q e = cc

  -- an idle step, and an invented step number: the clock counts one step more
  pub counted : u.rec.clock.steps ≡ t.rec.clock.steps + 1
  counted = ap (λ (z : Study). z.rec.clock.steps) stepped_so

  pub idle_falls : u ≡ t → ⊥
  idle_falls e = let n : t.rec.clock.steps ≡ t.rec.clock.steps + 1 = ap (λ (z : Study). z.rec.clock.steps) (sym e) ∙ counted in omega arith

-- ---- one that works once and then only moves the clock: the second step of document 01's sample study, with the wave set and sample 3.0
abbrev three : Float
three = of_bits binary64 0x4008000000000000

abbrev r₀ : Record
r₀ = with_region r₁ (slab_z r₁ 0 0) (restarted r₁.clock)

-- the line after a step of a study whose line is `aux`
abbrev line_after : Record → List Float → List Float
line_after r aux = line_end (eps_of r) (light_of r) r three (line_mid (mu_of r) r aux)

-- "auxiliary ex at 6 is 3.0" after the first step; after the second it is another number
once_and_again : (get_or (line_after r₀ s₁.aux) 6 nan ≡ three) × (eq (get_or (line_after (ticked r₀) (line_after r₀ s₁.aux)) 6 nan) three ≡ false) × (eq three three ≡ true)
unfolding line_end line_mid line_e line_h hy_after ex_moved ex_after joined open_stores store_lengths vacuum_of eps0 mu0 c0 pi ten_minus7 round of_bits of_int add sub mul div neg eq
once_and_again = (refl, refl, refl)

no_bool : ◌≡◌ {A = Bool} true false → ⊥
no_bool p = let z : ◌≡◌ {A = ℕ} 0 1 = cc in omega arith

pub once_falls : (w v : World) (lent back : Room) (a : Answer) (u : Study) → Honest engine (record { call = doing (step three); handed = w; lent = lent; reply = accepted a; left = v; back = back })
    → study_of w ≡ some (record { rec = ticked r₀; kept = stepped (eps_of r₀) (mu_of r₀) (light_of r₀) r₀ three s₁ }) → study_of v ≡ some u → u.kept ≡ stepped (eps_of r₀) (mu_of r₀) (light_of r₀) r₀ three s₁ → ⊥
unfolding stepped
once_falls w v lent back a u h before after same =
    let k = stepped_so three w v lent back a (record { rec = ticked r₀; kept = stepped (eps_of r₀) (mu_of r₀) (light_of r₀) r₀ three s₁ }) u h before after in
    let p : line_after r₀ s₁.aux ≡ line_after (ticked r₀) (line_after r₀ s₁.aux) = ap (λ (s : Stores). s.aux) (sym same) ∙ ap (λ (z : Study). z.kept.aux) k in
    let q : get_or (line_after (ticked r₀) (line_after r₀ s₁.aux)) 6 nan ≡ three = sym (ap (λ (l : List Float). get_or l 6 nan) p) ∙ once_and_again.0 in
    no_bool (sym once_and_again.2 ∙ sym (ap (λ (z : Float). eq z three) q) ∙ once_and_again.1)

-- ---- one that turns everything down, and one with a fixed reply: an opening without fault, and one into memory of another size
pub refusing_falls : (n : ℕ) (a : Answer) (v : World) (back : Room)
    → Honest engine (record { call = opening (cube 1) (lent_in w₀); handed = w₀; lent = nothing; reply = refused n a; left = v; back = back }) → ⊥
refusing_falls n a v back h =
    let k = opened.gives in
    no_outcome n a nothing k.0 (sym h.gives.0 ∙ k.2)

pub fixed_falls : (y : Reply Answer) (v u : World) (b c : Room)
    → Honest engine (record { call = opening (cube 1) (lent_in w₀); handed = w₀; lent = nothing; reply = y; left = v; back = b })
    → Honest engine (record { call = opening (cube 2) (lent_in w₁); handed = w₁; lent = nothing; reply = y; left = u; back = c }) → ⊥
fixed_falls (refused n a) v u b c g h = refusing_falls n a v b g
fixed_falls (accepted a) v u b c g h = no_outcome 4 nothing a h.gives.0 (sym not_opened.gives.0 ∙ h.gives.2)
