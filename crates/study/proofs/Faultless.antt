-- An accepted call leaves a record that the first three refusals do not turn down. Assumes nothing.
use Prim.Native.Nat.{ℕ, ◌≤◌, ◌<◌}
use native.Mathlib.Omega.{arith}
use mathlib.Core.Path.{◌≡◌, refl, ap, ◌∙◌}
use mathlib.Core.Bool.{Bool, true, false, cond, ◌&&◌, ◌||◌}
use mathlib.Core.List.{List, [], ◌∷◌}
use lib.Dec.{leb, eqb}
use lib.ListN.{length}
use lib.Seq.{get_or-set_same, get_or-set_other}
use lib.Ieee.{Float}
use borrow.Author.Tests.{leb-true, le-leb}
use Rattle.dispersion.specs.declared.DispersiveMaterial.{DispersiveMaterial}
use Rattle.grid.specs.declared.Region.{Region}
use Rattle.grid.specs.declared.Clock.{Clock}
use Rattle.grid.specs.declared.Record.{Record}
use Rattle.grid.specs.Edited.{with_walls, with_built, with_region}
use Rattle.grid.specs.Fault.{beyond, material_at, pole_count, size_fits, spacings_fit, opened_fit, counts_fit, material_fits, poles_fit, layer_fits, is_absent, corners_fit, region_fits, study_fits, fault_of}
use Rattle.grid.specs.Canon.{canon_material}
use Rattle.grid.specs.Stores.{Stores, fault_lent}
use Rattle.grid.proofs.Tests.{and_left, and_right, first_none, or_none}
use Rattle.grid.proofs.Judging.{all_more, all_same}
use Rattle.grid.proofs.Canonical.{fits_same}
use Rattle.materials.specs.Materials.{any_pole, built_of, add_fault, added}
use Rattle.materials.proofs.Building.{add_none}
use Rattle.step.specs.Step.{stepped, ticked}
use Rattle.run.specs.Run.{ran}

pub record Parts (r : Record) : Type 0 where
  pub size : size_fits r.nx r.ny r.nz ≡ true
  pub spacing : spacings_fit r.spacings ≡ true
  pub counts : counts_fit r ≡ true
  pub poles : poles_fit r ≡ true
  pub layer : layer_fits r.active r.layer_on ≡ true
  pub region : region_fits r.region r.nx r.ny r.nz ≡ true

pub parts : (r : Record) → fault_of r ≡ 0 → Parts r
unfolding fault_of study_fits
parts r e =
    let a = first_none (size_fits r.nx r.ny r.nz) 0 _ e in
    let b = first_none (spacings_fit r.spacings) 1 _ a.1 in
    let l = layer_fits r.active r.layer_on in
    let g = region_fits r.region r.nx r.ny r.nz in
    let s = (first_none (counts_fit r && poles_fit r && l && g) 2 0 b.1).0 in
    let t = and_left (counts_fit r && poles_fit r && l) g s in
    let u = and_left (counts_fit r && poles_fit r) l t in
    record {
      size = a.0;
      spacing = b.0;
      counts = and_left (counts_fit r) (poles_fit r) u;
      poles = and_right (counts_fit r) (poles_fit r) u;
      layer = and_right (counts_fit r && poles_fit r) l t;
      region = and_right (counts_fit r && poles_fit r && l) g s;
    }

pub whole : (r : Record) → Parts r → fault_of r ≡ 0
unfolding fault_of study_fits
whole r p = rw (p.size, p.spacing, p.counts, p.poles, p.layer, p.region)

pub lent_fine : (r : Record) (fits : Bool) → fault_lent r fits ≡ 0 → fault_of r ≡ 0
unfolding fault_lent
lent_fine r fits e = (or_none (fault_of r) _ e).0

-- ---- walls, region, clock
pub walls_whole : (r : Record) (p a : List Bool) (on : Bool) → fault_of r ≡ 0 → layer_fits a on ≡ true → fault_of (with_walls r p a on) ≡ 0
unfolding counts_fit poles_fit material_fits
walls_whole r p a on e h =
    let k = parts r e in
    whole (with_walls r p a on) (record { size = k.size; spacing = k.spacing; counts = k.counts; poles = k.poles; layer = h; region = k.region })

or_true : (b : Bool) → (b || true) ≡ true
or_true true = refl
or_true false = refl

pub region_whole : (r : Record) (g : Region) (t : Clock) → fault_of r ≡ 0 → corners_fit g r.nx r.ny r.nz ≡ true → fault_of (with_region r g t) ≡ 0
unfolding counts_fit poles_fit material_fits region_fits
region_whole r g t e h =
    let k = parts r e in
    whole (with_region r g t)
    (record { size = k.size; spacing = k.spacing; counts = k.counts; poles = k.poles; layer = k.layer; region = rw h (or_true (is_absent g.kind)) })

pub tick_whole : (r : Record) → fault_of r ≡ 0 → fault_of (ticked r) ≡ 0
unfolding counts_fit poles_fit material_fits
tick_whole r e =
    let k = parts r e in
    whole (ticked r) (record { size = k.size; spacing = k.spacing; counts = k.counts; poles = k.poles; layer = k.layer; region = k.region })

pub ran_whole : (eps0 mu0 c0 : Float) (r : Record) (xs : List Float) (s : Stores) → fault_of r ≡ 0 → fault_of (ran eps0 mu0 c0 r xs s).study ≡ 0
unfolding ran
ran_whole eps0 mu0 c0 r [] s e = e
ran_whole eps0 mu0 c0 r (x ∷ xs) s e = ran_whole eps0 mu0 c0 (ticked r) xs (stepped eps0 mu0 c0 r x s) (tick_whole r e)

-- ---- counts
record Counts (r : Record) : Type 0 where
  opened : opened_fit r ≡ true
  some : 1 ≤ r.material_count
  few : r.material_count ≤ 16
  built : r.built_count ≤ r.material_count
  bare : eqb (pole_count r 0) 0 ≡ true

counted : (r : Record) → counts_fit r ≡ true → Counts r
unfolding counts_fit
counted r e =
    let a = opened_fit r in
    let b = leb 1 r.material_count in
    let c = leb r.material_count 16 in
    let d = leb r.built_count r.material_count in
    let f = eqb (pole_count r 0) 0 in
    let t = and_left (a && b && c && d) f e in
    let u = and_left (a && b && c) d t in
    let v = and_left (a && b) c u in
    record {
      opened = and_left a b v;
      some = leb-true 1 r.material_count (and_right a b v);
      few = leb-true r.material_count 16 (and_right (a && b) c u);
      built = leb-true r.built_count r.material_count (and_right (a && b && c) d t);
      bare = and_right (a && b && c && d) f e;
    }

counts_fit_lem : (r : Record) → Counts r → counts_fit r ≡ true
unfolding counts_fit
counts_fit_lem r k =
    rw (
      k.opened,
      le-leb 1 r.material_count k.some,
      le-leb r.material_count 16 k.few,
      le-leb r.built_count r.material_count k.built,
      k.bare,
    )

-- a build
built_low : (r : Record) → built_of r ≤ r.material_count
unfolding built_of
built_low r = go (any_pole r)
  where
    go : (b : Bool) → cond b r.material_count 0 ≤ r.material_count
    go true = omega arith
    go false = omega arith

pub built_whole : (r : Record) → fault_of r ≡ 0 → fault_of (with_built r (built_of r)) ≡ 0
unfolding poles_fit material_fits
built_whole r e =
    let k = parts r e in
    let c = counted r k.counts in
    whole (with_built r (built_of r)) (record {
      size = k.size;
      spacing = k.spacing;
      counts = counts_fit_lem (with_built r (built_of r)) (record { opened = c.opened; some = c.some; few = c.few; built = built_low r; bare = c.bare });
      poles = k.poles;
      layer = k.layer;
      region = k.region;
    })

-- one material more
module _ (r : Record) (m : DispersiveMaterial) (long : length r.materials ≡ 16) (e : add_fault r m ≡ 0) where
  below : (i : ℕ) → i < r.material_count → material_at (added r m) i ≡ material_at r i
  unfolding added
  below i l = get_or-set_other r.materials r.material_count i (canon_material m) beyond (λ q. omega (arith, l, q))

  last : material_at (added r m) r.material_count ≡ canon_material m
  unfolding added
  last = get_or-set_same r.materials r.material_count (canon_material m) beyond (omega (arith, long, (add_none r m e).free))

  fits : material_fits r m ≡ true
  unfolding material_fits
  fits = rw ((add_none r m e).few, (add_none r m e).steps)

  poles_fit_lem : poles_fit (added r m) ≡ true
  unfolding poles_fit added material_fits
  poles_fit_lem =
      let was = all_same _ (λ i. material_fits r (material_at r i)) r.material_count (λ i l. ap (material_fits r) (below i l)) in
      all_more (λ i. material_fits (added r m) (material_at (added r m) i)) r.material_count (was ∙ (parts r (add_none r m e).fine).poles) (ap (material_fits r) last ∙ fits_same r m ∙ fits)

  pub added_whole : fault_of (added r m) ≡ 0
  unfolding added
  added_whole =
      let k = parts r (add_none r m e).fine in
      let c = counted r k.counts in
      let low = (add_none r m e).free in
      whole (added r m) (record {
        size = k.size;
        spacing = k.spacing;
        counts = counts_fit_lem (added r m) (record {
          opened = c.opened;
          some = omega arith;
          few = omega (arith, low);
          built = omega (arith, c.built);
          bare = ap (λ (d : DispersiveMaterial). eqb d.pole_count 0) (below 0 (omega (arith, c.some))) ∙ c.bare;
        });
        poles = poles_fit_lem;
        layer = k.layer;
        region = k.region;
      })
