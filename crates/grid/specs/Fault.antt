-- The refusals that a study record itself brings on (document 01, "What each call turns down"; document 02, S-2 and S-7): 1 BadSize, 2 BadSpacing, 3 BadStudy. Definitions only.
use Rattle.std.specs.Prelude.{ℕ, zero, suc, ◌*◌, Bool, true, false, not, ◌&&◌, ◌||◌, List, [], leb, ltb, eqb, get_or, Float}
use Rattle.std.specs.Float.{nan}
use Rattle.std.specs.Float.Ieee.Positive.{positive}
use Rattle.refusals.specs.declared.Refusal.TheVariants.{BadSize, BadSpacing, BadStudy}
use Rattle.refusals.specs.Refusals.{number}
use Rattle.root.specs.declared.Spacings.{Spacings}
use Rattle.dispersion.specs.declared.DispersiveMaterial.{DispersiveMaterial}
use Rattle.dispersion.specs.Ade.{pole_steps}
use Rattle.dispersion.specs.Material.{pole_in}
use Rattle.grid.specs.declared.RegionKind.{RegionKind}
use Rattle.grid.specs.declared.RegionKind.TheVariants.{Absent, SlabZ, InjectorZ, BoxRegion}
use Rattle.grid.specs.declared.Region.{Region}
use Rattle.grid.specs.declared.Record.{Record}
use Rattle.grid.specs.Vacuum.{eps_of}
use Rattle.grid.specs.Limits.{max_side, max_cells, max_pole_slots, max_materials, max_constants}

abbrev pub bad_size : ℕ
bad_size = number BadSize

abbrev pub bad_spacing : ℕ
bad_spacing = number BadSpacing

abbrev pub bad_study : ℕ
bad_study = number BadStudy

-- ---- 1: a size outside the ranges
unfoldable pub side_fits : ℕ → Bool
side_fits n = leb 1 n && leb n max_side

unfoldable pub sides_fit : ℕ → ℕ → ℕ → Bool
sides_fit nx ny nz = side_fits nx && side_fits ny && side_fits nz

unfoldable pub size_fits : ℕ → ℕ → ℕ → Bool
size_fits nx ny nz = sides_fit nx ny nz && leb (nx * ny * nz) max_cells

-- ---- 2: dx, dy, dz or dt not finite or not above 0; `positive` is finite and above 0
unfoldable pub spacings_fit : Spacings → Bool
spacings_fit s = positive s.dx && positive s.dy && positive s.dz && positive s.dt

-- ---- 3, clause by clause
-- what stands past the end of the materials to Rattle
abbrev pub beyond : DispersiveMaterial
beyond = record { eps_inf = nan; sigma = nan; mu_r = nan; pole_count = 0; poles = [] }

abbrev pub material_at : Record → ℕ → DispersiveMaterial
material_at r i = get_or r.materials i beyond

abbrev pub pole_count : Record → ℕ → ℕ
pole_count r i = (material_at r i).pole_count

-- constants that are neither 0 nor 1, more than 4 pole slots (document 01's P)
abbrev pub opened_fit : Record → Bool
opened_fit r = leb r.constants max_constants && leb r.pole_slots max_pole_slots

-- one of these, material count not 1 to 16, built count (the materials that dispersion was built for, 0 where it is off) above it, material 0 with a pole
unfoldable pub counts_fit : Record → Bool
counts_fit r =
    opened_fit r
    && leb 1 r.material_count
    && leb r.material_count max_materials
    && leb r.built_count r.material_count
    && eqb (pole_count r 0) 0

-- f of every number below n
unfoldable pub all_below : (ℕ → Bool) → ℕ → Bool
all_below f zero = true
all_below f (suc n) = all_below f n && f n

-- whether each pole that a material counts can be stepped (document 02, S-2); what stands past the count means nothing
unfoldable pub material_steps : (eps0 dt : Float) → DispersiveMaterial → Bool
material_steps eps0 dt m = all_below (λ slot. pole_steps eps0 dt (pole_in m slot)) m.pole_count

-- a material with more poles than slots, or with one that cannot be stepped by the record's constants and dt
unfoldable pub material_fits : Record → DispersiveMaterial → Bool
material_fits r m = leb m.pole_count r.pole_slots && material_steps (eps_of r) r.spacings.dt m

-- such a one among the counted materials
unfoldable pub poles_fit : Record → Bool
poles_fit r = all_below (λ i. material_fits r (material_at r i)) r.material_count

-- an active axis with the layer off
unfoldable pub layer_fits : List Bool → Bool → Bool
layer_fits active on = on || not (get_or active 0 false || get_or active 1 false || get_or active 2 false)

-- a region failing 9's test, its corners inclusive: i0 ≤ i1 < nx, j0 ≤ j1 < ny, k0 ≤ k1 < nz
unfoldable pub corners_fit : Region → ℕ → ℕ → ℕ → Bool
corners_fit r nx ny nz =
    leb r.i0 r.i1 && ltb r.i1 nx && leb r.j0 r.j1 && ltb r.j1 ny && leb r.k0 r.k1 && ltb r.k1 nz

abbrev pub is_absent : RegionKind → Bool
is_absent Absent = true
is_absent SlabZ = false
is_absent InjectorZ = false
is_absent BoxRegion = false

unfoldable pub region_fits : Region → ℕ → ℕ → ℕ → Bool
region_fits r nx ny nz = is_absent r.kind || corners_fit r nx ny nz

unfoldable pub study_fits : Record → Bool
study_fits r = counts_fit r && poles_fit r && layer_fits r.active r.layer_on && region_fits r.region r.nx r.ny r.nz

-- ---- the first fault's number, or 0
-- n unless the test passes, then what later tests find
abbrev pub first : (passes : Bool) → (n later : ℕ) → ℕ
first true n later = later
first false n later = n

unfoldable pub fault_of : Record → ℕ
fault_of r =
    first (size_fits r.nx r.ny r.nz) bad_size
    (first (spacings_fit r.spacings) bad_spacing
    (first (study_fits r) bad_study 0))
