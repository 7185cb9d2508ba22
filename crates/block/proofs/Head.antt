-- The record itself as its twenty-seven numbers: they fit their widths, are found fine, and say the record again, without what means nothing. Assumes nothing.
use Prim.Native.Nat.{ℕ, ◌≤◌, ◌<◌}
use native.Mathlib.Omega.{arith}
use mathlib.Core.Path.{◌≡◌, refl, subst}
use mathlib.Core.Bool.{Bool, true, false, ◌&&◌, ◌||◌}
use mathlib.Core.List.{List, [], ◌∷◌, map}
use borrow.Author.Tests.{le-leb, leb-true, ltb-true}
use lib.Dec.{T, leb, ltb, eqb}
use lib.ListN.{length, get_or}
use lib.Ieee.{binary64}
use lib.Ieee.Bits.{of_bits-to_bits}
use Rattle.codec.specs.Bytes.{fine, fit_all, bits}
use Rattle.codec.proofs.Patterns.{bits_fine}
use Rattle.codec.proofs.Row.{fit_nil, fit_cons}
use Rattle.dispersion.specs.declared.DispersiveMaterial.{DispersiveMaterial}
use Rattle.dispersion.specs.Material.{vacuum_material}
use Rattle.grid.specs.declared.RegionKind.{RegionKind}
use Rattle.grid.specs.declared.RegionKind.TheVariants.{Absent, SlabZ, InjectorZ, BoxRegion}
use Rattle.grid.specs.declared.Region.{Region}
use Rattle.grid.specs.declared.Record.{Record}
use Rattle.grid.specs.Canon.{keep_first, canon_material, region_by, canon_region, canon}
use Rattle.grid.specs.Fault.{is_absent, corners_fit, region_fits, opened_fit, counts_fit, poles_fit, layer_fits, study_fits, spacings_fit, size_fits, pole_count, all_below, fault_of}
use Rattle.grid.specs.Inner.Sound.{Sound}
use Rattle.grid.proofs.Judging.{sound, constants_of, poles_at}
use Rattle.grid.proofs.Tests.{and_left, and_right, first_none}
use Rattle.heads.specs.Numbers.{flag_num, kind_num, kind_of, gh_widths, flag_nums, float_nums, gh_nums, flags_fine, corners_fine, gh_shaped, gh_fine, gh_of}
use Rattle.block.specs.Inner.Held.{Held}
use Rattle.block.proofs.Entry.{bits_small, fit_append}

-- ---- what a record without fault meets besides
study_of_lem : (r : Record) → fault_of r ≡ 0 → study_fits r ≡ true
unfolding fault_of
study_of_lem r e =
    let a = first_none (size_fits r.nx r.ny r.nz) 0 _ e in
    let b = first_none (spacings_fit r.spacings) 1 _ a.1 in
    (first_none (study_fits r) 2 0 b.1).0

parts_of : (r : Record) → study_fits r ≡ true → (counts_fit r ≡ true) × (poles_fit r ≡ true) × (region_fits r.region r.nx r.ny r.nz ≡ true)
unfolding study_fits
parts_of r e =
    let layer = layer_fits r.active r.layer_on in
    let region = region_fits r.region r.nx r.ny r.nz in
    let three = and_left (counts_fit r && poles_fit r && layer) region e in
    let two = and_left (counts_fit r && poles_fit r) layer three in
    (and_left (counts_fit r) (poles_fit r) two, and_right (counts_fit r) (poles_fit r) two, and_right (counts_fit r && poles_fit r && layer) region e)

built_of_lem : (r : Record) → counts_fit r ≡ true → r.built_count ≤ r.material_count
unfolding counts_fit
built_of_lem r e =
    let three = opened_fit r && leb 1 r.material_count && leb r.material_count 16 in
    let built = leb r.built_count r.material_count in
    leb-true _ _ (and_right three built (and_left (three && built) (eqb (pole_count r 0) 0) e))

-- ---- the region
record Corners (g : Region) : Type 0 where
  a : g.i0 < 65536
  b : g.i1 < 65536
  c : g.j0 < 65536
  d : g.j1 < 65536
  e : g.k0 < 65536
  f : g.k1 < 65536

corners_in : (g : Region) (nx ny nz : ℕ) → nx ≤ 512 → ny ≤ 512 → nz ≤ 512 → corners_fit g nx ny nz ≡ true → Corners g
unfolding corners_fit
corners_in g nx ny nz x y z t =
    let a = leb g.i0 g.i1 in
    let b = ltb g.i1 nx in
    let c = leb g.j0 g.j1 in
    let d = ltb g.j1 ny in
    let e = leb g.k0 g.k1 in
    let f = ltb g.k1 nz in
    let t5 = and_left (a && b && c && d && e) f t in
    let t4 = and_left (a && b && c && d) e t5 in
    let t3 = and_left (a && b && c) d t4 in
    let t2 = and_left (a && b) c t3 in
    let i0 : g.i0 ≤ g.i1 = leb-true _ _ (and_left a b t2) in
    let i1 : g.i1 < nx = ltb-true _ _ (and_right a b t2) in
    let j0 : g.j0 ≤ g.j1 = leb-true _ _ (and_right (a && b) c t3) in
    let j1 : g.j1 < ny = ltb-true _ _ (and_right (a && b && c) d t4) in
    let k0 : g.k0 ≤ g.k1 = leb-true _ _ (and_right (a && b && c && d) e t5) in
    let k1 : g.k1 < nz = ltb-true _ _ (and_right (a && b && c && d && e) f t) in
    record { a = omega arith; b = omega arith; c = omega arith; d = omega arith; e = omega arith; f = omega arith }

region_in : (k : RegionKind) (g : Region) (nx ny nz : ℕ) → g.kind ≡ k → nx ≤ 512 → ny ≤ 512 → nz ≤ 512 → region_fits g nx ny nz ≡ true → Corners (region_by k g)
unfolding region_fits
region_in Absent g nx ny nz p x y z t = record { a = omega arith; b = omega arith; c = omega arith; d = omega arith; e = omega arith; f = omega arith }
region_in SlabZ g nx ny nz p x y z t = corners_in g nx ny nz x y z (subst (λ (k : RegionKind). (is_absent k || corners_fit g nx ny nz) ≡ true) p t)
region_in InjectorZ g nx ny nz p x y z t = corners_in g nx ny nz x y z (subst (λ (k : RegionKind). (is_absent k || corners_fit g nx ny nz) ≡ true) p t)
region_in BoxRegion g nx ny nz p x y z t = corners_in g nx ny nz x y z (subst (λ (k : RegionKind). (is_absent k || corners_fit g nx ny nz) ≡ true) p t)

kind_low : (k : RegionKind) → kind_num k ≤ 3
kind_low Absent = omega arith
kind_low SlabZ = omega arith
kind_low InjectorZ = omega arith
kind_low BoxRegion = omega arith

kind_back : (k : RegionKind) → kind_of (kind_num k) ≡ k
kind_back Absent = refl
kind_back SlabZ = refl
kind_back InjectorZ = refl
kind_back BoxRegion = refl

corners_fine_lem : (k : RegionKind) (g : Region) → g.kind ≡ k →
    (ltb 0 (kind_num (region_by k g).kind) || (eqb (region_by k g).i0 0 && eqb (region_by k g).i1 0 && eqb (region_by k g).j0 0 && eqb (region_by k g).j1 0 && eqb (region_by k g).k0 0 && eqb (region_by k g).k1 0)) ≡ true
corners_fine_lem Absent g e = refl
corners_fine_lem SlabZ g e = rw e
corners_fine_lem InjectorZ g e = rw e
corners_fine_lem BoxRegion g e = rw e

-- ---- flags
flag_small : (b : Bool) → flag_num b ≤ 1
flag_small true = omega arith
flag_small false = omega arith

flag_low : (b : Bool) → leb (flag_num b) 1 ≡ true
flag_low b = le-leb (flag_num b) 1 (flag_small b)

flag_back : (b : Bool) → eqb (flag_num b) 1 ≡ b
flag_back true = refl
flag_back false = refl

three_back : (l : List Bool) → length l ≡ 3 → (eqb (flag_num (get_or l 0 false)) 1 ∷ eqb (flag_num (get_or l 1 false)) 1 ∷ eqb (flag_num (get_or l 2 false)) 1 ∷ []) ≡ l
three_back (a ∷ b ∷ c ∷ []) e = rw (flag_back a, flag_back b, flag_back c)
three_back [] e = absurd (let z : ⊥ = omega arith in z)
three_back (a ∷ []) e = absurd (let z : ⊥ = omega arith in z)
three_back (a ∷ b ∷ []) e = absurd (let z : ⊥ = omega arith in z)
three_back (a ∷ b ∷ c ∷ d ∷ l) e = absurd (let z : ⊥ = omega arith in z)

-- ---- the numbers
module _ (r : Record) (ok : fault_of r ≡ 0) (h : Held r) where
  s : Sound r
  s = sound r ok

  parts : (counts_fit r ≡ true) × (poles_fit r ≡ true) × (region_fits r.region r.nx r.ny r.nz ≡ true)
  parts = parts_of r (study_of_lem r ok)

  pub few_poles : (i : ℕ) → i < r.material_count → pole_count r i < 256
  few_poles i l = let k = poles_at r i parts.1 l in omega (arith, k, s.slots)

  corners : Corners (canon_region r.region)
  unfolding canon_region
  corners = region_in r.region.kind r.region r.nx r.ny r.nz refl s.xs s.ys s.zs parts.2

  flags_fit : T (fit_all (1 ∷ 1 ∷ 1 ∷ 1 ∷ 1 ∷ 1 ∷ 1 ∷ []) (flag_nums r.periodic r.active r.layer_on))
  flags_fit = go (get_or r.periodic 0 false) (get_or r.periodic 1 false) (get_or r.periodic 2 false) (get_or r.active 0 false) (get_or r.active 1 false) (get_or r.active 2 false) r.layer_on
    where
      one : (b : Bool) → flag_num b < 256
      one b = omega (arith, flag_small b)

      go : (a b c d e f g : Bool) → T (fit_all (1 ∷ 1 ∷ 1 ∷ 1 ∷ 1 ∷ 1 ∷ 1 ∷ []) (flag_num a ∷ flag_num b ∷ flag_num c ∷ flag_num d ∷ flag_num e ∷ flag_num f ∷ flag_num g ∷ []))
      go a b c d e f g =
          fit_cons 1 _ _ _ (one a) (fit_cons 1 _ _ _ (one b) (fit_cons 1 _ _ _ (one c) (fit_cons 1 _ _ _ (one d) (fit_cons 1 _ _ _ (one e) (fit_cons 1 _ _ _ (one f) (fit_cons 1 _ _ _ (one g) fit_nil))))))

  sizes_fit : T (fit_all (2 ∷ 2 ∷ 2 ∷ []) (r.nx ∷ r.ny ∷ r.nz ∷ []))
  sizes_fit = fit_cons 2 _ _ _ (omega (arith, s.xs)) (fit_cons 2 _ _ _ (omega (arith, s.ys)) (fit_cons 2 _ _ _ (omega (arith, s.zs)) fit_nil))

  counts_fit_lem : (g : Region) → Corners g →
      T (fit_all (1 ∷ 1 ∷ 1 ∷ 1 ∷ 2 ∷ 2 ∷ 2 ∷ 2 ∷ 2 ∷ 2 ∷ []) (r.built_count ∷ r.pole_slots ∷ r.material_count ∷ kind_num g.kind ∷ g.i0 ∷ g.i1 ∷ g.j0 ∷ g.j1 ∷ g.k0 ∷ g.k1 ∷ []))
  counts_fit_lem g k =
      fit_cons 1 _ _ _ (omega (arith, built_of_lem r parts.0, s.materials)) (fit_cons 1 _ _ _ (omega (arith, s.slots)) (fit_cons 1 _ _ _ (omega (arith, s.materials)) (fit_cons 1 _ _ _ (omega (arith, kind_low g.kind))
      (fit_cons 2 _ _ _ k.a (fit_cons 2 _ _ _ k.b (fit_cons 2 _ _ _ k.c (fit_cons 2 _ _ _ k.d (fit_cons 2 _ _ _ k.e (fit_cons 2 _ _ _ k.f fit_nil)))))))))

  floats_fit_lem : T (fit_all (8 ∷ 8 ∷ 8 ∷ 8 ∷ 8 ∷ []) (float_nums r.spacings r.clock.time))
  floats_fit_lem =
      fit_cons 8 _ _ _ (bits_small _ h.x) (fit_cons 8 _ _ _ (bits_small _ h.y) (fit_cons 8 _ _ _ (bits_small _ h.z) (fit_cons 8 _ _ _ (bits_small _ h.t) (fit_cons 8 _ _ _ (bits_small _ h.time) fit_nil))))

  pub head_fit : T (fit_all gh_widths (gh_nums r))
  unfolding gh_nums
  head_fit =
      fit_append _ (4 ∷ 1 ∷ []) _ (r.clock.steps ∷ r.constants ∷ [])
      (fit_append _ (8 ∷ 8 ∷ 8 ∷ 8 ∷ 8 ∷ []) _ (float_nums r.spacings r.clock.time)
      (fit_append _ (1 ∷ 1 ∷ 1 ∷ 1 ∷ 2 ∷ 2 ∷ 2 ∷ 2 ∷ 2 ∷ 2 ∷ []) _ _
      (fit_append (2 ∷ 2 ∷ 2 ∷ []) (1 ∷ 1 ∷ 1 ∷ 1 ∷ 1 ∷ 1 ∷ 1 ∷ []) (r.nx ∷ r.ny ∷ r.nz ∷ []) (flag_nums r.periodic r.active r.layer_on) sizes_fit flags_fit)
      (counts_fit_lem (canon_region r.region) corners)) floats_fit_lem)
      (fit_cons 4 _ _ _ h.steps (fit_cons 1 _ _ _ (omega (arith, constants_of r ok)) fit_nil))

  flags_fine_lem : flags_fine (gh_nums r) ≡ true
  unfolding flags_fine gh_nums all_below
  flags_fine_lem = go (get_or r.periodic 0 false) (get_or r.periodic 1 false) (get_or r.periodic 2 false) (get_or r.active 0 false) (get_or r.active 1 false) (get_or r.active 2 false) r.layer_on (canon_region r.region).kind
    where
      go : (a b c d e f g : Bool) (k : RegionKind) →
          (leb (flag_num a) 1 && leb (flag_num b) 1 && leb (flag_num c) 1 && leb (flag_num d) 1 && leb (flag_num e) 1 && leb (flag_num f) 1 && leb (flag_num g) 1 && leb (kind_num k) 3) ≡ true
      go a b c d e f g k = rw (flag_low a, flag_low b, flag_low c, flag_low d, flag_low e, flag_low f, flag_low g, le-leb (kind_num k) 3 (kind_low k))

  places_fine : corners_fine (gh_nums r) ≡ true
  unfolding corners_fine gh_nums canon_region all_below
  places_fine = corners_fine_lem r.region.kind r.region refl

  numbers_fine : (fine (bits r.spacings.dx) && fine (bits r.spacings.dy) && fine (bits r.spacings.dz) && fine (bits r.spacings.dt) && fine (bits r.clock.time)) ≡ true
  numbers_fine = rw (bits_fine _ h.x, bits_fine _ h.y, bits_fine _ h.z, bits_fine _ h.t, bits_fine _ h.time)

  pub head_shaped : gh_shaped (gh_nums r) ≡ true
  unfolding gh_shaped
  head_shaped = rw (flags_fine_lem, places_fine)

  pub head_fine : gh_fine (gh_nums r) ≡ true
  unfolding gh_fine gh_nums all_below
  head_fine = go _ _ head_shaped numbers_fine
    where
      go : (a b : Bool) → a ≡ true → b ≡ true → (a && b) ≡ true
      go a b p q = rw (p, q)

  -- the record again, with the materials ms
  pub head_back : (ms : List DispersiveMaterial) → ms ≡ keep_first r.material_count vacuum_material (map canon_material r.materials) → gh_of (gh_nums r) ms ≡ canon r
  unfolding gh_of gh_nums canon
  head_back ms e =
      rw (
        e,
        three_back r.periodic h.walls.0,
        three_back r.active h.walls.1,
        flag_back r.layer_on,
        kind_back (canon_region r.region).kind,
        of_bits-to_bits binary64 _ h.x,
        of_bits-to_bits binary64 _ h.y,
        of_bits-to_bits binary64 _ h.z,
        of_bits-to_bits binary64 _ h.t,
        of_bits-to_bits binary64 _ h.time,
      )
