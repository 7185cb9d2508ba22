-- What a study without fault gives. Assumes nothing.
use Prim.Native.Nat.{ℕ, zero, suc, ◌+◌, ◌≤◌, ◌<◌}
use native.Mathlib.Omega.{arith}
use mathlib.Core.Path.{◌≡◌, sym, ap, ◌∙◌}
use mathlib.Core.Bool.{Bool, true, false, ◌&&◌, ◌||◌}
use mathlib.Core.List.{List, [], ◌∷◌}
use lib.Dec.{eqb, ltb, leb}
use lib.ListN.{length, get_or}
use borrow.Author.Tests.{ltb-true, leb-true}
use Rattle.codec.specs.Lists.{every}
use Rattle.grid.specs.declared.Record.{Record}
use Rattle.grid.specs.declared.stores.Lengths.{Lengths}
use Rattle.grid.specs.Fault.{fault_of, size_fits, spacings_fit, study_fits, opened_fit, counts_fit, poles_fit, layer_fits, region_fits, corners_fit, is_absent, pole_count}
use Rattle.grid.specs.Limits.{max_materials}
use Rattle.grid.specs.Stores.{Stores, lengths_of, store_lengths, cells, fault_with, fault_lent}
use Rattle.grid.proofs.Tests.{and_left, and_right, first_none, or_none}
use Rattle.grid.proofs.Settled.{with_none}
use Rattle.ade.proofs.Advancing.{fit_of}
use Rattle.corrections.specs.Inner.Faces.{Corners}
use Rattle.corrections.proofs.Faced.{corners_of}
use Rattle.step.specs.Step.{last_step, fresh_ids, step_fault}
use Rattle.step.specs.Inner.Ready.{StepReady}

module _ (p : ℕ → Bool) where
  every_at : (l : List ℕ) (i : ℕ) → every p l ≡ true → i < length l → p (get_or l i 0) ≡ true
  unfolding every
  every_at [] i e h = absurd (omega arith)
  every_at (x ∷ l) zero e h = and_left (p x) (every p l) e
  every_at (x ∷ l) (suc i) e h = every_at l i (and_right (p x) (every p l) e) (omega arith)

fits_of : (r : Record) → fault_of r ≡ 0 → study_fits r ≡ true
unfolding fault_of
fits_of r e =
    let size = first_none (size_fits r.nx r.ny r.nz) 0 _ e in
    let spacing = first_none (spacings_fit r.spacings) 1 _ size.1 in
    (first_none (study_fits r) 2 0 spacing.1).0

built_of_lem : (r : Record) → study_fits r ≡ true → r.built_count ≤ r.material_count
unfolding study_fits counts_fit
built_of_lem r e =
    let layer = layer_fits r.active r.layer_on in
    let region = region_fits r.region r.nx r.ny r.nz in
    let three = opened_fit r && leb 1 r.material_count && leb r.material_count max_materials in
    let built = leb r.built_count r.material_count in
    let none = eqb (pole_count r 0) 0 in
    let counts = and_left (three && built && none) (poles_fit r) (and_left (three && built && none && poles_fit r) layer (and_left (three && built && none && poles_fit r && layer) region e)) in
    leb-true r.built_count r.material_count (and_right three built (and_left (three && built) none counts))

or_right : (a b : Bool) → (a || b) ≡ true → a ≡ false → b ≡ true
or_right a b e h = rw h at e

region_of : (r : Record) → study_fits r ≡ true → is_absent r.region.kind ≡ false → Corners r.region r.nx r.ny r.nz
unfolding study_fits region_fits
region_of r e h =
    let layer = layer_fits r.active r.layer_on in
    let region = is_absent r.region.kind || corners_fit r.region r.nx r.ny r.nz in
    corners_of r.region r.nx r.ny r.nz (or_right (is_absent r.region.kind) _ (and_right (counts_fit r && poles_fit r && layer) region e) h)

known_of : (r : Record) (ids : List ℕ) → study_fits r ≡ true → fresh_ids r.built_count ids ≡ true → length ids ≡ cells r → eqb r.built_count 0 ≡ false
    → (m : ℕ) → m < cells r → get_or ids m 0 < r.material_count
unfolding fresh_ids
known_of r ids e f l h m b =
    let all = or_right (eqb r.built_count 0) _ f h in
    let low = ltb-true (get_or ids m 0) r.built_count (every_at (λ id. ltb id r.built_count) ids m all (omega arith)) in
    let few = built_of_lem r e in
    omega arith

pub ready : (r : Record) (s : Stores) (n : ℕ) → step_fault r (lengths_of s) s.ids n ≡ 0 → StepReady r s × (r.clock.steps + n ≤ last_step)
unfolding step_fault store_lengths fault_lent
ready r s n e =
    let four = or_none (fault_with r (lengths_of s)) _ e in
    let fresh = first_none (fresh_ids r.built_count s.ids) 7 _ four.1 in
    let ticks = first_none (leb (r.clock.steps + n) last_step) 10 0 fresh.1 in
    let fits = or_none (fault_of r) _ four.0 in
    let study = fits_of r fits.0 in
    let well = with_none r (lengths_of s) four.0 in
    let l = well.1 in
    let ids_long = ap (λ (x : Lengths). x.ids) l in (
      record {
        wavy = record {
          sound = well.0;
          corners = region_of r study;
          stuff = ap (λ (x : Lengths). x.media) l;
          wave = ap (λ (x : Lengths). x.aux) l;
          field = ap (λ (x : Lengths). x.magnetic) l;
        };
        polar = record {
          sound = well.0;
          fit = fit_of r fits.0;
          known = known_of r s.ids study fresh.0 ids_long;
          numbered = ids_long;
          field = ap (λ (x : Lengths). x.electric) l;
          stored = ap (λ (x : Lengths). x.poles) l;
        };
        memory = (ap (λ (x : Lengths). x.psi_e) l, ap (λ (x : Lengths). x.psi_h) l, ap (λ (x : Lengths). x.tables) l);
      },
      leb-true (r.clock.steps + n) last_step ticks.0,
    )

-- by what a step found no fault with
pub ready_by : (r : Record) (s : Stores) (n : ℕ) {l : Lengths} → l ≡ lengths_of s → 0 ≡ step_fault r l s.ids n → StepReady r s × (r.clock.steps + n ≤ last_step)
ready_by r s n e h = ready r s n (sym (h ∙ ap (λ (k : Lengths). step_fault r k s.ids n) e))
