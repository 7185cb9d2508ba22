-- The canon of a record: taking it twice changes nothing, and it has the faults that the record has. Assumes nothing.
use Prim.Native.Nat.{ℕ, zero, suc, ◌<◌}
use native.Mathlib.Nat.{not-suc-le-zero, le_of_suc-le-suc}
use mathlib.Core.Path.{◌≡◌, refl, ap, ◌∙◌}
use mathlib.Core.Bool.{Bool, true, false, ◌&&◌, and-false}
use mathlib.Core.List.{List, [], ◌∷◌, map}
use borrow.Author.Tests.{leb-true}
use lib.Dec.{leb}
use lib.ListN.{get_or}
use lib.Ieee.{Float}
use Rattle.dispersion.specs.declared.DispersiveMaterial.{DispersiveMaterial}
use Rattle.dispersion.specs.Ade.{pole_steps}
use Rattle.dispersion.specs.Material.{blank_slot, pole_in, vacuum_material}
use Rattle.grid.specs.declared.RegionKind.{RegionKind}
use Rattle.grid.specs.declared.RegionKind.TheVariants.{Absent, SlabZ, InjectorZ, BoxRegion}
use Rattle.grid.specs.declared.Region.{Region}
use Rattle.grid.specs.declared.Record.{Record}
use Rattle.grid.specs.Canon.{keep_first, canon_material, region_by, canon_region, canon}
use Rattle.grid.specs.Vacuum.{eps_of}
use Rattle.grid.specs.Fault.{beyond, material_at, pole_count, opened_fit, counts_fit, material_steps, material_fits, poles_fit, region_fits, study_fits, fault_of}
use Rattle.grid.proofs.Judging.{all_same}

-- ---- twice
keep_twice : {A : Type 0} (n : ℕ) (d : A) (l : List A) → keep_first n d (keep_first n d l) ≡ keep_first n d l
unfolding keep_first
keep_twice n d [] = refl
keep_twice {A} zero d (x ∷ l) = ap (λ (t : List A). d ∷ t) (keep_twice zero d l)
keep_twice {A} (suc n) d (x ∷ l) = ap (λ (t : List A). x ∷ t) (keep_twice n d l)

pub material_twice : (m : DispersiveMaterial) → canon_material (canon_material m) ≡ canon_material m
unfolding canon_material
material_twice m = rw (keep_twice m.pole_count blank_slot m.poles)

materials_twice : (n : ℕ) (l : List DispersiveMaterial) →
    keep_first n vacuum_material (map canon_material (keep_first n vacuum_material (map canon_material l))) ≡ keep_first n vacuum_material (map canon_material l)
unfolding keep_first
materials_twice n [] = refl
materials_twice zero (x ∷ l) = ap (λ (t : List DispersiveMaterial). vacuum_material ∷ t) (materials_twice zero l)
materials_twice (suc n) (x ∷ l) = rw (material_twice x) (ap (λ (t : List DispersiveMaterial). canon_material x ∷ t) (materials_twice n l))

region_kind : (k : RegionKind) (r : Region) → r.kind ≡ k → region_by (region_by k r).kind (region_by k r) ≡ region_by k r
region_kind Absent r e = refl
region_kind SlabZ r e = ap (λ (k : RegionKind). region_by k r) e
region_kind InjectorZ r e = ap (λ (k : RegionKind). region_by k r) e
region_kind BoxRegion r e = ap (λ (k : RegionKind). region_by k r) e

region_twice : (r : Region) → canon_region (canon_region r) ≡ canon_region r
unfolding canon_region
region_twice r = region_kind r.kind r refl

pub canon_twice : (r : Record) → canon (canon r) ≡ canon r
unfolding canon
canon_twice r = rw (materials_twice r.material_count r.materials, region_twice r.region)

-- ---- a counted material
kept_at : (n i : ℕ) (l : List DispersiveMaterial) → i < n → get_or (keep_first n vacuum_material (map canon_material l)) i beyond ≡ canon_material (get_or l i beyond)
unfolding keep_first canon_material
kept_at zero i l h = absurd (not-suc-le-zero h)
kept_at (suc n) i [] h = refl
kept_at (suc n) zero (x ∷ l) h = refl
kept_at (suc n) (suc i) (x ∷ l) h = kept_at n i l (le_of_suc-le-suc h)

pub material_kept : (r : Record) (i : ℕ) → i < r.material_count → material_at (canon r) i ≡ canon_material (material_at r i)
unfolding canon
material_kept r i h = kept_at r.material_count i r.materials h

pub count_kept : (r : Record) (i : ℕ) → i < r.material_count → pole_count (canon r) i ≡ pole_count r i
unfolding canon_material
count_kept r i h = ap (λ (m : DispersiveMaterial). m.pole_count) (material_kept r i h)

-- ---- a counted pole
first_kept : {A : Type 0} (n i : ℕ) (d : A) (l : List A) → i < n → get_or (keep_first n d l) i d ≡ get_or l i d
unfolding keep_first
first_kept zero i d l h = absurd (not-suc-le-zero h)
first_kept (suc n) i d [] h = refl
first_kept (suc n) zero d (x ∷ l) h = refl
first_kept (suc n) (suc i) d (x ∷ l) h = first_kept n i d l (le_of_suc-le-suc h)

pub pole_kept : (m : DispersiveMaterial) (i : ℕ) → i < m.pole_count → pole_in (canon_material m) i ≡ pole_in m i
unfolding canon_material
pole_kept m i h = first_kept m.pole_count i blank_slot m.poles h

-- ---- faults
-- a material fits as its canon does
steps_same : (eps0 dt : Float) (m : DispersiveMaterial) → material_steps eps0 dt (canon_material m) ≡ material_steps eps0 dt m
unfolding material_steps canon_material
steps_same eps0 dt m = all_same _ _ m.pole_count (λ slot h. ap (pole_steps eps0 dt) (pole_kept m slot h))

pub fits_same : (r : Record) (m : DispersiveMaterial) → material_fits r (canon_material m) ≡ material_fits r m
unfolding material_fits canon_material
fits_same r m = ap (λ (t : Bool). leb m.pole_count r.pole_slots && t) (steps_same (eps_of r) r.spacings.dt m)

poles_same : (r : Record) → poles_fit (canon r) ≡ poles_fit r
unfolding poles_fit canon material_fits
poles_same r = all_same _ _ r.material_count (λ i h. ap (material_fits r) (material_kept r i h) ∙ fits_same r (material_at r i))

counts_by : (low : Bool) (r : Record) → leb 1 r.material_count ≡ low → counts_fit (canon r) ≡ counts_fit r
unfolding counts_fit canon
counts_by true r e = rw (count_kept r 0 (leb-true 1 r.material_count e))
counts_by false r e = rw (e, and-false (opened_fit r))

region_same_by : (k : RegionKind) (r : Region) (nx ny nz : ℕ) → r.kind ≡ k → region_fits (region_by k r) nx ny nz ≡ region_fits r nx ny nz
unfolding region_fits
region_same_by Absent r nx ny nz e = rw e
region_same_by SlabZ r nx ny nz e = refl
region_same_by InjectorZ r nx ny nz e = refl
region_same_by BoxRegion r nx ny nz e = refl

region_same : (r : Region) (nx ny nz : ℕ) → region_fits (canon_region r) nx ny nz ≡ region_fits r nx ny nz
unfolding canon_region
region_same r nx ny nz = region_same_by r.kind r nx ny nz refl

study_same : (r : Record) → study_fits (canon r) ≡ study_fits r
unfolding study_fits canon
study_same r = rw (counts_by (leb 1 r.material_count) r refl, poles_same r, region_same r.region r.nx r.ny r.nz)

-- what means nothing is at no fault
pub canon_fault : (r : Record) → fault_of (canon r) ≡ fault_of r
unfolding fault_of canon
canon_fault r = rw (study_same r)
