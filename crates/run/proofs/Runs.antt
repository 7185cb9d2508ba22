-- What is left of a run, sample by sample; and that a run is its steps. Assumes nothing.
use Prim.Native.Nat.{ℕ, ◌+◌, ◌-◌, ◌≤◌, ◌<◌}
use native.Mathlib.Numerals.{add-one}
use native.Mathlib.Omega.{arith}
use mathlib.Core.Path.{◌≡◌, refl, sym, ap, ◌∙◌}
use mathlib.Core.Bool.{true}
use mathlib.Core.List.{List, [], ◌∷◌}
use lib.ListN.{length, get_or, drop}
use lib.Seq.{drop-cons, drop-length}
use lib.Ieee.{Float, nan}
use Rattle.grid.specs.declared.Record.{Record}
use Rattle.grid.specs.declared.Clock.{Clock}
use Rattle.grid.specs.Edited.{with_clock}
use Rattle.grid.specs.Fault.{material_fits, poles_fit}
use Rattle.grid.specs.Inner.Sound.{Sound}
use Rattle.grid.specs.Stores.{Stores, stores, Outcome, outcome}
use Rattle.step.specs.Step.{last_step, stepped, ticked}
use Rattle.step.specs.Inner.Ready.{StepReady}
use Rattle.run.specs.Run.{ran}

module _ (eps0 mu0 c0 : Float) (samples : List Float) where
  pub goes : {W : Outcome Stores} (r q : Record) (s s' : Stores) (i : ℕ) → ran eps0 mu0 c0 r (drop i samples) s ≡ W → i < length samples → q ≡ ticked r
      → s' ≡ stepped eps0 mu0 c0 r (get_or samples i nan) s → ran eps0 mu0 c0 q (drop (i + 1) samples) s' ≡ W
  unfolding ran
  goes r q s s' i left h eq es =
      rw (add-one, eq, es) (sym (ap (λ (l : List Float). ran eps0 mu0 c0 r l s) (drop-cons samples i nan h)) ∙ left)

  pub ends : {W : Outcome Stores} (r : Record) (s : Stores) (i : ℕ) → ran eps0 mu0 c0 r (drop i samples) s ≡ W → i ≡ length samples → outcome 0 r s ≡ W
  unfolding ran
  ends r s i left e = sym (ap (λ (l : List Float). ran eps0 mu0 c0 r l s) (ap (λ (n : ℕ). drop n samples) e ∙ drop-length samples)) ∙ left

-- of the record a run moves the clock alone
module _ (eps0 mu0 c0 : Float) where
  clock_alone : (r : Record) (samples : List Float) (s : Stores) → with_clock r (ran eps0 mu0 c0 r samples s).study.clock ≡ (ran eps0 mu0 c0 r samples s).study
  unfolding ran
  clock_alone r [] s = refl
  clock_alone r (x ∷ xs) s = clock_alone (ticked r) xs (stepped eps0 mu0 c0 r x s)

  pub by_clock : (r q : Record) (samples : List Float) (s s' : Stores) → outcome 0 q s' ≡ ran eps0 mu0 c0 r samples s → outcome 0 (with_clock r q.clock) s' ≡ ran eps0 mu0 c0 r samples s
  by_clock r q samples s s' e =
      let last = ap (λ (o : Outcome Stores). o.study) e in
      let same = ap (λ (o : Record). with_clock r o.clock) last ∙ clock_alone r samples s ∙ sym last in
      ap (λ (o : Record). outcome 0 o s') same ∙ e

-- the clock is not looked at
same : {r : Record} (t : Clock) → Sound r → Sound (with_clock r t)
same t p =
    record {
      x1 = p.x1;
      y1 = p.y1;
      z1 = p.z1;
      xs = p.xs;
      ys = p.ys;
      zs = p.zs;
      plane = p.plane;
      some = p.some;
      cells = p.cells;
      slots = p.slots;
      poles = p.poles;
      materials = p.materials;
    }

fitting : (r : Record) (t : Clock) → poles_fit r ≡ true → poles_fit (with_clock r t) ≡ true
unfolding poles_fit material_fits
fitting r t p = p

-- a step leaves a study without fault: the stores keep their lengths
module _ {e h media psi_e psi_h tables poles aux e' h' psiE' psiH' poles' aux' : List Float} {ids : List ℕ} where
  pub still_ready : (r q : Record) → q ≡ ticked r → StepReady r (stores e h media psi_e psi_h tables poles aux ids) → length e' ≡ length e → length h' ≡ length h → length psiE' ≡ length psi_e
      → length psiH' ≡ length psi_h → length poles' ≡ length poles → length aux' ≡ length aux → StepReady q (stores e' h' media psiE' psiH' tables poles' aux' ids)
  still_ready r q eq p a b c d f g =
      let w = p.wavy in
      let o = p.polar in
      rw eq (record {
        wavy = record { sound = same _ w.sound; corners = w.corners; stuff = w.stuff; wave = g ∙ w.wave; field = b ∙ w.field };
        polar = record { sound = same _ o.sound; fit = fitting r _ o.fit; known = o.known; numbered = o.numbered; field = a ∙ o.field; stored = f ∙ o.stored };
        memory = (c ∙ p.memory.0, d ∙ p.memory.1, p.memory.2);
      })

-- the steps that the clock has to have left
pub less_left : (r q : Record) → q ≡ ticked r → (n i : ℕ) → i < n → r.clock.steps + (n - i) ≤ last_step → q.clock.steps + (n - (i + 1)) ≤ last_step
less_left r q e n i h b = let more : q.clock.steps ≡ r.clock.steps + 1 = ap (λ (x : Record). x.clock.steps) e in omega arith
