-- The region in which the total field stands, set as a slab, an injector or a box (tfsf.rs, `slab_z`, `injector_z`, `box_region`). Definitions only.
use Rattle.refusals.specs.declared.Refusal.TheVariants.{BadRegion}
use Rattle.refusals.specs.Refusals.{number}
use Rattle.std.specs.Prelude.{ℕ, ◌-◌, List, eqb, length, Float}
use Rattle.root.specs.Rounded.{zero_f}
use Rattle.grid.specs.declared.RegionKind.TheVariants.{SlabZ, InjectorZ}
use Rattle.grid.specs.declared.Region.{Region}
use Rattle.grid.specs.declared.Clock.{Clock}
use Rattle.grid.specs.declared.Record.{Record}
use Rattle.grid.specs.Edited.{with_region}
use Rattle.grid.specs.Fault.{first, corners_fit}
use Rattle.grid.specs.Stores.{zeros, store_lengths, or_else, fault_lent, Outcome, settle}

-- the two z faces closed, over the whole of x and y
abbrev pub slab_z : Record → (k0 k1 : ℕ) → Region
slab_z r k0 k1 = record { kind = SlabZ; i0 = 0; i1 = r.nx - 1; j0 = 0; j1 = r.ny - 1; k0 = k0; k1 = k1 }

-- the lower z face alone, and everything above it total field
abbrev pub injector_z : Record → ℕ → Region
injector_z r k0 = record { kind = InjectorZ; i0 = 0; i1 = r.nx - 1; j0 = 0; j1 = r.ny - 1; k0 = k0; k1 = r.nz - 1 }

abbrev pub bad_region : ℕ
bad_region = number BadRegion

unfoldable pub region_fault : Record → Region → (aux : ℕ) → ℕ
region_fault r g n = or_else (fault_lent r (eqb n (store_lengths r).aux)) (first (corners_fit g r.nx r.ny r.nz) bad_region 0)

-- time 0.0, and steps run on
abbrev pub restarted : Clock → Clock
restarted c = record { time = zero_f; steps = c.steps }

-- the line is cleared
unfoldable pub region_call : Record → Region → List Float → Outcome (List Float)
region_call r g aux = settle (region_fault r g (length aux)) r aux (with_region r g (restarted r.clock)) (zeros (length aux))
