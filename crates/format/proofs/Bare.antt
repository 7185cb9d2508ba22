-- A record of which GH alone is known: what 1 to 3 find in it is among what they find in the whole record. Assumes nothing.
use Prim.Native.Nat.{ℕ, zero, suc}
use native.Mathlib.Omega.{arith}
use mathlib.Core.Path.{◌≡◌, refl, ap, ◌∙◌}
use mathlib.Core.Bool.{Bool, true, ◌&&◌}
use mathlib.Core.List.{List}
use borrow.Author.Tests.{le-leb, eq-eqb}
use lib.Dec.{leb, eqb}
use lib.ListN.{get_or, replicate}
use Rattle.dispersion.specs.declared.DispersiveMaterial.{DispersiveMaterial}
use Rattle.dispersion.specs.Material.{vacuum_material}
use Rattle.grid.specs.declared.Record.{Record}
use Rattle.grid.specs.Edited.{with_materials}
use Rattle.grid.specs.Stores.{store_lengths}
use Rattle.grid.specs.Fault.{beyond, material_at, pole_count, size_fits, spacings_fit, all_below, opened_fit, counts_fit, material_steps, material_fits, poles_fit, layer_fits, region_fits, study_fits, fault_of}
use Rattle.grid.proofs.Tests.{and_left, and_right, first_none}
use Rattle.heads.specs.Numbers.{gh_nums, gh_of}
use Rattle.grid.proofs.Judging.{all_true}
use Rattle.format.specs.Rewind.{bare}

no_poles : (n i : ℕ) → (get_or (replicate n vacuum_material) i beyond).pole_count ≡ 0
no_poles zero i = refl
no_poles (suc n) zero = refl
no_poles (suc n) (suc i) = no_poles n i

no_pole_fits : (r : Record) (m : DispersiveMaterial) → m.pole_count ≡ 0 → material_fits r m ≡ true
unfolding material_fits material_steps all_below
no_pole_fits r m e = rw (e, le-leb 0 r.pole_slots (omega arith))

module _ (r : Record) where
  abbrev b : Record
  b = with_materials r (replicate 16 vacuum_material) r.material_count

  bare_counts : counts_fit r ≡ true → counts_fit b ≡ true
  unfolding counts_fit
  bare_counts e =
      let four = opened_fit r && leb 1 r.material_count && leb r.material_count 16 && leb r.built_count r.material_count in
      ap (λ (t : Bool). t && eqb (pole_count b 0) 0) (and_left four (eqb (pole_count r 0) 0) e) ∙ eq-eqb (pole_count b 0) 0 (no_poles 16 0)

  bare_poles : poles_fit b ≡ true
  unfolding poles_fit
  bare_poles = all_true _ r.material_count (λ i h. no_pole_fits b (material_at b i) (no_poles 16 i))

  bare_study : study_fits r ≡ true → study_fits b ≡ true
  unfolding study_fits
  bare_study e =
      let layer = layer_fits r.active r.layer_on in
      let region = region_fits r.region r.nx r.ny r.nz in
      let three = and_left (counts_fit r && poles_fit r && layer) region e in
      let two = and_left (counts_fit r && poles_fit r) layer three in
      rw (bare_counts (and_left (counts_fit r) (poles_fit r) two), bare_poles, and_right (counts_fit r && poles_fit r) layer three, and_right (counts_fit r && poles_fit r && layer) region e)

  bare_fault : fault_of r ≡ 0 → fault_of b ≡ 0
  unfolding fault_of
  bare_fault e =
      let h1 = first_none (size_fits r.nx r.ny r.nz) 0 _ e in
      let h2 = first_none (spacings_fit r.spacings) 1 _ h1.1 in
      let h3 = first_none (study_fits r) 2 0 h2.1 in
      rw (h1.0, h2.0, bare_study h3.0)

pub bare_none : (g : List ℕ) (ms : List DispersiveMaterial) → fault_of (gh_of g ms) ≡ 0 → fault_of (bare g) ≡ 0
unfolding bare gh_of
bare_none g ms e = bare_fault (gh_of g ms) e

-- the lengths of the stores come from GH
pub bare_lengths : (g : List ℕ) (ms : List DispersiveMaterial) → store_lengths (bare g) ≡ store_lengths (gh_of g ms)
unfolding store_lengths bare gh_of
bare_lengths g ms = refl

pub own_lengths : (r : Record) → store_lengths (bare (gh_nums r)) ≡ store_lengths r
unfolding store_lengths bare gh_of gh_nums
own_lengths r = refl
