-- The calls that add materials, place them in cells and build their dispersion. Definitions only.
use Rattle.std.specs.Prelude.{ℕ, zero, suc, ◌+◌, ◌*◌, Bool, true, false, cond, ◌&&◌, ◌||◌, List, leb, ltb, eqb, length, get_or, set, Float}
use Rattle.std.specs.Float.{nan}
use Rattle.refusals.specs.declared.Refusal.TheVariants.{NoSuchMaterial, Full, TooManyPoles}
use Rattle.refusals.specs.Refusals.{number}
use Rattle.dispersion.specs.declared.DispersiveMaterial.{DispersiveMaterial}
use Rattle.dispersion.specs.Ade.{bad_pole}
use Rattle.grid.specs.declared.Record.{Record}
use Rattle.cells.specs.declared.IndexBox.{IndexBox}
use Rattle.cells.specs.Box.{in_box, box_cells}
use Rattle.cells.specs.Cells.{cellwise, cell_index, components}
use Rattle.materials.specs.declared.Put.{Put}
use Rattle.materials.specs.declared.Put.TheVariants.{Numbers, Library}
use Rattle.grid.specs.Limits.{max_materials}
use Rattle.grid.specs.Vacuum.{eps_of}
use Rattle.grid.specs.Fault.{material_at, first, pole_count, material_steps, fault_of}
use Rattle.grid.specs.Edited.{with_materials, with_built}
use Rattle.grid.specs.Canon.{canon_material}
use Rattle.grid.specs.Stores.{zeros, store_lengths, or_else, fault_lent, Outcome, outcome, settle}

-- eps_r, mu_r, sigma by their place in the store
abbrev pub medium_at : Float → Float → Float → ℕ → Float
medium_at eps mu sigma c = cond (eqb c 0) eps (cond (eqb c 1) mu sigma)

-- the cell numbers with v in each cell of the box; every other number stands
unfoldable pub media_set : (nx ny nz : ℕ) → IndexBox → (ℕ → Float) → List Float → List Float
media_set nx ny nz b v old =
    components 3 nx ny nz (λ c i j k. cond (in_box b i j k) (v c) (get_or old (c * (nx * ny * nz) + cell_index nx ny i j k) nan))

-- the ids with `id` in each cell of the box
unfoldable pub ids_set : (nx ny nz : ℕ) → IndexBox → ℕ → List ℕ → List ℕ
ids_set nx ny nz b id old = cellwise nx ny nz (λ i j k. cond (in_box b i j k) id (get_or old (cell_index nx ny i j k) 0))

-- ---- put_box: three numbers, or a registered material's numbers and its id; the answer is how many cells of the grid are in the box (document 02, S-5)
abbrev pub no_such_material : ℕ
no_such_material = number NoSuchMaterial

pub record Placed : Type 0 where
  pub media : List Float
  pub ids : List ℕ

abbrev pub placed : List Float → List ℕ → Placed
placed m i = record { media = m; ids = i }

-- a registered material's numbers and its id
unfoldable pub assigned : Record → IndexBox → ℕ → Placed → Placed
assigned r b id s =
    let m = material_at r id in
    placed (media_set r.nx r.ny r.nz b (medium_at m.eps_inf m.mu_r m.sigma) s.media) (ids_set r.nx r.ny r.nz b id s.ids)

-- where three numbers are put, the ids stand
unfoldable pub put_into : Record → IndexBox → Put → Placed → Placed
put_into r b (Numbers eps mu sigma) s = placed (media_set r.nx r.ny r.nz b (medium_at eps mu sigma) s.media) s.ids
put_into r b (Library id) s = assigned r b id s

unfoldable pub is_known : Record → Put → Bool
is_known r (Numbers eps mu sigma) = true
is_known r (Library id) = ltb id r.material_count

-- both stores are judged whatever is put; 7 NoSuchMaterial for a material alone, even where the box is empty
unfoldable pub put_fault : Record → (media ids : ℕ) → Put → ℕ
put_fault r media ids what =
    or_else (fault_lent r (eqb media (store_lengths r).media && eqb ids (store_lengths r).ids)) (first (is_known r what) no_such_material 0)

pub record Filled : Type 0 where
  pub stores : Placed
  pub cells : ℕ

abbrev pub filled : Placed → ℕ → Filled
filled s n = record { stores = s; cells = n }

unfoldable pub put_box_call : Record → IndexBox → Put → Placed → Outcome Filled
put_box_call r b what s =
    settle (put_fault r (length s.media) (length s.ids) what) r (filled s 0) r (filled (put_into r b what s) (box_cells r.nx r.ny r.nz b))

-- ---- assign_material_halfspace_z: a registered material in the box of all cells from plane k0 on, and no count
abbrev pub halfspace : Record → ℕ → IndexBox
halfspace r k0 = record { i0 = 0; i1 = r.nx; j0 = 0; j1 = r.ny; k0 = k0; k1 = r.nz }

abbrev pub uncounted : Outcome Filled → Outcome Placed
uncounted o = outcome o.refusal o.study o.rest.stores

unfoldable pub halfspace_call : Record → (id k0 : ℕ) → Placed → Outcome Placed
halfspace_call r id k0 s = uncounted (put_box_call r (halfspace r k0) (Library id) s)

-- ---- build_dispersion: the built count is the present material count, or 0 where no material has a pole; poles and dp are cleared
-- f of some number below n
unfoldable pub any_below : (ℕ → Bool) → ℕ → Bool
any_below f zero = false
any_below f (suc n) = any_below f n || f n

unfoldable pub any_pole : Record → Bool
any_pole r = any_below (λ i. ltb 0 (pole_count r i)) r.material_count

unfoldable pub built_of : Record → ℕ
built_of r = cond (any_pole r) r.material_count 0

unfoldable pub poles_fault : Record → ℕ → ℕ
poles_fault r n = fault_lent r (eqb n (store_lengths r).poles)

unfoldable pub build_call : Record → List Float → Outcome (List Float)
build_call r poles =
    settle (poles_fault r (length poles)) r poles (with_built r (built_of r)) (zeros (length poles))

-- ---- add_material: 6 TooManyPoles, then 19 BadPole (document 02, S-2), then 5 Full; no store is lent; the answer is the material's id
abbrev pub full : ℕ
full = number Full

abbrev pub too_many_poles : ℕ
too_many_poles = number TooManyPoles

unfoldable pub add_fault : Record → DispersiveMaterial → ℕ
add_fault r m =
    or_else (fault_of r)
    (first (leb m.pole_count r.pole_slots) too_many_poles
    (first (material_steps (eps_of r) r.spacings.dt m) bad_pole
    (first (ltb r.material_count max_materials) full 0)))

-- the record keeps nothing of the places past the pole count, so that a canonical record stays canonical
unfoldable pub added : Record → DispersiveMaterial → Record
added r m = with_materials r (set r.materials r.material_count (canon_material m)) (r.material_count + 1)

unfoldable pub add_call : Record → DispersiveMaterial → Outcome ℕ
add_call r m = settle (add_fault r m) r 0 (added r m) r.material_count
