-- A record with some of what a call may change put anew. Sizes, pole slots, spacings and constants stay from opening on. Definitions only.
use Rattle.std.specs.Prelude.{ℕ, Bool, List}
use Rattle.dispersion.specs.declared.DispersiveMaterial.{DispersiveMaterial}
use Rattle.grid.specs.declared.Region.{Region}
use Rattle.grid.specs.declared.Clock.{Clock}
use Rattle.grid.specs.declared.Record.{Record}

abbrev pub edited : Record → (periodic active : List Bool) (layer : Bool) → List DispersiveMaterial → (count built : ℕ) → Region → Clock → Record
edited r periodic active layer materials count built region clock = record {
  nx = r.nx;
  ny = r.ny;
  nz = r.nz;
  pole_slots = r.pole_slots;
  spacings = r.spacings;
  periodic = periodic;
  active = active;
  layer_on = layer;
  materials = materials;
  material_count = count;
  built_count = built;
  region = region;
  clock = clock;
  constants = r.constants;
}

-- periodic and active axes, and whether the layer is on
abbrev pub with_walls : Record → (periodic active : List Bool) (layer : Bool) → Record
with_walls r p a on = edited r p a on r.materials r.material_count r.built_count r.region r.clock

abbrev pub with_materials : Record → List DispersiveMaterial → ℕ → Record
with_materials r l n = edited r r.periodic r.active r.layer_on l n r.built_count r.region r.clock

abbrev pub with_built : Record → ℕ → Record
with_built r n = edited r r.periodic r.active r.layer_on r.materials r.material_count n r.region r.clock

abbrev pub with_region : Record → Region → Clock → Record
with_region r g t = edited r r.periodic r.active r.layer_on r.materials r.material_count r.built_count g t

abbrev pub with_clock : Record → Clock → Record
with_clock r t = with_region r r.region t
