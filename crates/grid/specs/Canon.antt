-- The record without what means nothing: places past a pole count, entries past the material count, the corners of an absent region (document 01: "The
-- study is record and stores without ..."). Two records stand for one study where their canons are equal. Definitions only.
use Rattle.std.specs.Prelude.{ℕ, zero, suc, List, [], ◌∷◌, map}
use Rattle.dispersion.specs.declared.DispersiveMaterial.{DispersiveMaterial}
use Rattle.dispersion.specs.Material.{blank_slot, vacuum_material}
use Rattle.grid.specs.declared.RegionKind.TheVariants.{Absent, SlabZ, InjectorZ, BoxRegion}
use Rattle.grid.specs.declared.RegionKind.{RegionKind}
use Rattle.grid.specs.declared.Region.{Region}
use Rattle.grid.specs.declared.Record.{Record}

-- the first n elements, and d in the place of each one after them
unfoldable pub keep_first : {A : Type 0} → ℕ → A → List A → List A
keep_first n d [] = []
keep_first zero d (x ∷ l) = d ∷ keep_first zero d l
keep_first (suc n) d (x ∷ l) = x ∷ keep_first n d l

unfoldable pub canon_material : DispersiveMaterial → DispersiveMaterial
canon_material m = record {
  eps_inf = m.eps_inf;
  sigma = m.sigma;
  mu_r = m.mu_r;
  pole_count = m.pole_count;
  poles = keep_first m.pole_count blank_slot m.poles;
}

abbrev pub absent_region : Region
absent_region = record { kind = Absent; i0 = 0; i1 = 0; j0 = 0; j1 = 0; k0 = 0; k1 = 0 }

abbrev pub region_by : RegionKind → Region → Region
region_by Absent r = absent_region
region_by SlabZ r = r
region_by InjectorZ r = r
region_by BoxRegion r = r

unfoldable pub canon_region : Region → Region
canon_region r = region_by r.kind r

unfoldable pub canon : Record → Record
canon r = record {
  nx = r.nx;
  ny = r.ny;
  nz = r.nz;
  pole_slots = r.pole_slots;
  spacings = r.spacings;
  periodic = r.periodic;
  active = r.active;
  layer_on = r.layer_on;
  materials = keep_first r.material_count vacuum_material (map canon_material r.materials);
  material_count = r.material_count;
  built_count = r.built_count;
  region = canon_region r.region;
  clock = r.clock;
  constants = r.constants;
}
