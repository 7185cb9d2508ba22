-- Every call is a `settle`: refused it leaves all, accepted it puts its next record and its rest; and on the canon of a record it is judged alike and gives
-- the canon of what it gives on the record. Assumes nothing.
use Prim.Native.Nat.{ℕ, ◌+◌, ◌<◌}
use native.Mathlib.Omega.{arith}
use mathlib.Core.Path.{◌≡◌, refl, sym, ap, ◌∙◌}
use mathlib.Core.Bool.{Bool, true, false, ◌&&◌}
use mathlib.Core.List.{List, [], ◌∷◌}
use lib.Dec.{ltb, leb, eqb}
use lib.ListN.{length}
use lib.Ieee.{Float}
use borrow.Author.Tests.{ltb-true}
use Rattle.dispersion.specs.declared.DispersiveMaterial.{DispersiveMaterial}
use Rattle.dispersion.specs.Ade.{bad_pole}
use Rattle.cells.specs.declared.IndexBox.{IndexBox}
use Rattle.grid.specs.declared.Region.{Region}
use Rattle.grid.specs.declared.Record.{Record}
use Rattle.grid.specs.declared.stores.Lengths.{Lengths}
use Rattle.grid.specs.Edited.{with_walls, with_built, with_region, with_clock}
use Rattle.grid.specs.Fault.{first, corners_fit, layer_fits, material_steps, fault_of}
use Rattle.grid.specs.Canon.{canon_material, canon_region, canon}
use Rattle.grid.specs.Vacuum.{eps_of, mu_of, light_of}
use Rattle.grid.specs.Stores.{Stores, Outcome, outcome, settle, zeros, or_else, store_lengths, same_lengths, lengths_of, fault_lent, fault_with}
use Rattle.grid.proofs.Canonical.{material_kept, canon_fault}
use Rattle.grid.proofs.Tests.{or_none, first_none}
use Rattle.grid.proofs.Settled.{lent_none}
use Rattle.materials.proofs.Building.{add_none}
use Rattle.materials.proofs.Placing.{uncounted_settled}
use Rattle.block.specs.Inner.Held.{held, Held}
use Rattle.codec.specs.Lists.{every}
use lib.Ieee.Fits.{and_l, and_r}
use Rattle.opening.specs.Layer.{layer, layer_long, layer_lent, cleared_layer}
use Rattle.materials.specs.Materials.{medium_at, media_set, Placed, ids_set, assigned, is_known, put_into, put_fault, filled, put_box_call, halfspace, halfspace_call, built_of, poles_fault, build_call, too_many_poles, full, add_fault, added, no_such_material, placed}
use Rattle.materials.specs.declared.Put.{Put}
use Rattle.materials.specs.declared.Put.TheVariants.{Numbers, Library}
use Rattle.cells.specs.Box.{box_cells}
use Rattle.format.specs.InMemory.{StoresHeld}
use Rattle.heads.specs.Payloads.{entry_of}
use Rattle.block.proofs.Decoded.{read_held}
use Rattle.format.specs.Save.{save_length, length_call}
use Rattle.calls.specs.Blocks.{material_fault, material_of, add_bytes_fault, add_bytes_call}
use Rattle.boundary.specs.declared.LossyAbsorber.{LossyAbsorber}
use Rattle.boundary.specs.Lossy.{lossy_sigma, no_wall, lossy_media}
use Rattle.boundary.specs.Walls.{all_axes, set_periodic_call, plain_fault, set_plain_call, lossy_fault, bad_order, set_lossy_call}
use Rattle.cpml.specs.Absorber.{active_axes, periodic_left, layer_tables, cpml_fault, absorbed, set_cpml_call}
use Rattle.tfsf.specs.Wave.{slab_z, injector_z, bad_region, region_fault, restarted, region_call}
use Rattle.fields.specs.Fields.{reset, reset_long, cleared, reset_call, energy_of, energy_fault, energy_call, plane_of, no_such_plane, plane_fault, plane_call}
use Rattle.step.specs.Step.{stale_material, spent_clock, last_step, fresh_ids, step_fault, stepped, ticked, step_call}
use Rattle.step.proofs.Judged.{ready}
use Rattle.run.specs.Run.{ran, run_call}
use Rattle.study.specs.World.{Floats, SaidPut, SaidAct, Act, put_box, assign_halfspace, add_material, build_dispersion, set_periodic, walls_periodic, walls_conductor, walls_lossy, walls_cpml, slab, injector, box_region, step, run, reset_fields, total_energy, plane_reading, ask_length}
use Rattle.study.specs.Inner.Holding.{Holding}
use Rattle.study.specs.Calls.{Form, form, storing, put_aux, put_placed, put_layer, layer_of, placed_of, box_region_of, weight_of}
use Rattle.study.proofs.Kept.{built_kept, added_kept, lent_kept}
use Rattle.study.proofs.Fits.{zeros_fit, layer_fit, set_fit, lossy_fit, stepped_fit}
use Rattle.study.proofs.Remains.{held_walls, held_built, held_region, held_tick, held_added, fit_media, fit_poles, fit_aux, fit_layer, fit_cleared, fit_reset, fit_assigned, ran_holds}
use Rattle.study.proofs.Faultless.{parts, lent_fine, walls_whole, region_whole, tick_whole, ran_whole, built_whole, added_whole}
use Rattle.study.proofs.Stepped.{Known, stepped_kept, ticked_kept}

pub record Regular (f : Form) (weight : ℕ) (said : Type 0) : Type 0 where
  pub fault : Record → Stores → ℕ
  pub next : Record → Stores → Record
  pub rest : Record → Stores → f.Rest
  pub is : (r : Record) (s : Stores) → f.call r s ≡ settle (fault r s) r (f.idle s) (next r s) (rest r s)
  -- refused, every store is as it was
  pub idles : (s : Stores) → f.stored (f.idle s) s ≡ s
  -- and the answer is nought
  pub silent : (s : Stores) → f.answer (f.idle s) ≡ f.nought
  -- on the canon
  pub fault_canon : (r : Record) (s : Stores) → fault (canon r) s ≡ fault r s
  pub next_canon : (r : Record) (s : Stores) → fault r s ≡ 0 → next (canon r) s ≡ canon (next r s)
  pub rest_canon : (r : Record) (s : Stores) → fault r s ≡ 0 → rest (canon r) s ≡ rest r s
  -- the steps counted
  pub counts : (r : Record) (s : Stores) → (next r s).clock.steps ≡ r.clock.steps + weight
  -- no record that the first three refusals turn down
  pub sound : (r : Record) (s : Stores) → Held r → fault r s ≡ 0 → fault_of (next r s) ≡ 0
  -- what memory can hold becomes what memory can hold
  pub holds : said → (r : Record) (s : Stores) → Holding r s → fault r s ≡ 0 → Holding (next r s) (f.stored (rest r s) s)

nought : (n : ℕ) → n ≡ n + 0
nought n = omega arith

-- ---- materials
set_asked : (nx ny nz : ℕ) (b : IndexBox) (eps mu sigma : Float) (old : List Float) → Floats (eps ∷ mu ∷ sigma ∷ []) → Floats old
    → Floats (media_set nx ny nz b (medium_at eps mu sigma) old)
unfolding every
set_asked nx ny nz b eps mu sigma old a t =
    let p = and_l (held eps) _ a in
    let q = and_r (held eps) _ a in
    set_fit nx ny nz b eps mu sigma old p (and_l (held mu) _ q) (and_l (held sigma) _ (and_r (held mu) _ q)) t

counted : (r : Record) (m n id : ℕ) → put_fault r m n (Library id) ≡ 0 → id < r.material_count
unfolding put_fault is_known
counted r m n id e = ltb-true id r.material_count (first_none (ltb id r.material_count) 6 0 (or_none (fault_lent r _) _ e).1).0

few : (r : Record) (m n id : ℕ) → put_fault r m n (Library id) ≡ 0 → id < 16
unfolding put_fault
few r m n id e =
    let low = counted r m n id e in
    let sixteen = (lent_none r _ (or_none (fault_lent r (eqb m (store_lengths r).media && eqb n (store_lengths r).ids)) _ e).0).0.materials in
    omega (arith, low, sixteen)

known_kept : (r : Record) (what : Put) → is_known (canon r) what ≡ is_known r what
unfolding is_known canon
known_kept r (Numbers eps mu sigma) = refl
known_kept r (Library id) = refl

put_fault_kept : (r : Record) (m n : ℕ) (what : Put) → put_fault (canon r) m n what ≡ put_fault r m n what
unfolding put_fault store_lengths canon
put_fault_kept r m n what =
    ap (λ (t : Bool). or_else (fault_lent (canon r) (eqb m (store_lengths r).media && eqb n (store_lengths r).ids)) (first t no_such_material 0)) (known_kept r what)
    ∙ ap (λ (f : ℕ). or_else f (first (is_known r what) no_such_material 0)) (lent_kept r (eqb m (store_lengths r).media && eqb n (store_lengths r).ids))

put_fine : (r : Record) (m n : ℕ) (what : Put) → put_fault r m n what ≡ 0 → fault_of r ≡ 0
unfolding put_fault
put_fine r m n what e =
    lent_fine r (eqb m (store_lengths r).media && eqb n (store_lengths r).ids) (or_none (fault_lent r (eqb m (store_lengths r).media && eqb n (store_lengths r).ids)) _ e).0

left_three : (p a : List Bool) → length (periodic_left p a) ≡ 3
unfolding periodic_left
left_three p a = refl

placed_kept : (r : Record) (id : ℕ) (b : IndexBox) (p : Placed) → id < r.material_count → assigned (canon r) b id p ≡ assigned r b id p
unfolding assigned canon canon_material
placed_kept r id b p low =
    ap (λ (m : DispersiveMaterial). placed (media_set r.nx r.ny r.nz b (medium_at m.eps_inf m.mu_r m.sigma) p.media) (ids_set r.nx r.ny r.nz b id p.ids))
    (material_kept r id low)

put_kept : (r : Record) (b : IndexBox) (what : Put) (p : Placed) → put_fault r (length p.media) (length p.ids) what ≡ 0 → put_into (canon r) b what p ≡ put_into r b what p
unfolding put_into canon
put_kept r b (Numbers eps mu sigma) p e = refl
put_kept r b (Library id) p e = placed_kept r id b p (counted r (length p.media) (length p.ids) id e)

put_fit : (r : Record) (s : Stores) (b : IndexBox) (what : Put) → Held r → StoresHeld s → SaidPut what → put_fault r (length s.media) (length s.ids) what ≡ 0
    → StoresHeld (put_placed (put_into r b what (placed_of s)) s)
unfolding put_into
put_fit r s b (Numbers eps mu sigma) h f said e = fit_media s f _ (set_asked r.nx r.ny r.nz b eps mu sigma s.media said f.media)
put_fit r s b (Library id) h f said e = fit_assigned r s b id h f (few r (length s.media) (length s.ids) id e)

put_box_lem : (b : IndexBox) (what : Put) (n : ℕ) → Regular (form (put_box b what n)) 0 (SaidAct (put_box b what n))
unfolding put_box_call canon
put_box_lem b what n = record {
  fault = λ r s. put_fault r (length s.media) (length s.ids) what;
  next = λ r s. r;
  rest = λ r s. filled (put_into r b what (placed_of s)) (box_cells r.nx r.ny r.nz b);
  is = λ r s. refl;
  idles = λ s. refl;
  silent = λ s. refl;
  fault_canon = λ r s. put_fault_kept r (length s.media) (length s.ids) what;
  next_canon = λ r s h. refl;
  rest_canon = λ r s h. ap (λ (p : Placed). filled p (box_cells r.nx r.ny r.nz b)) (put_kept r b what (placed_of s) h);
  counts = λ r s. nought _;
  holds = λ said r s h e. record { held = h.held; fits = put_fit r s b what h.held h.fits said e };
  sound = λ r s h e. put_fine r (length s.media) (length s.ids) what e;
}

half : (id k0 : ℕ) → Regular (form (assign_halfspace id k0)) 0 (SaidAct (assign_halfspace id k0))
unfolding halfspace_call put_box_call put_into canon
half id k0 = record {
  fault = λ r s. put_fault r (length s.media) (length s.ids) (Library id);
  next = λ r s. r;
  rest = λ r s. assigned r (halfspace r k0) id (placed_of s);
  is = λ r s. uncounted_settled (put_fault r (length s.media) (length s.ids) (Library id)) r (placed_of s) _ _;
  idles = λ s. refl;
  silent = λ s. refl;
  fault_canon = λ r s. put_fault_kept r (length s.media) (length s.ids) (Library id);
  next_canon = λ r s h. refl;
  rest_canon = λ r s h. placed_kept r id (halfspace r k0) (placed_of s) (counted r (length s.media) (length s.ids) id h);
  counts = λ r s. nought _;
  holds = λ said r s h e.
      record { held = h.held; fits = fit_assigned r s (halfspace r k0) id h.held h.fits (few r (length s.media) (length s.ids) id e) };
  sound = λ r s h e. put_fine r (length s.media) (length s.ids) (Library id) e;
}

-- the bytes are a material's, whatever they are: only bytes that are one are taken
adding : (m : List ℕ) (r : Record) → add_bytes_fault m r ≡ 0 → add_fault r (material_of m) ≡ 0
unfolding add_bytes_fault
adding m r e = (or_none (material_fault m) _ (or_none (fault_of r) _ e).1).1

add : (m : List ℕ) (n : ℕ) → Regular (form (add_material m n)) 0 (SaidAct (add_material m n))
unfolding add_bytes_call add_bytes_fault add_fault added canon material_of
add m n = record {
  fault = λ r s. add_bytes_fault m r;
  next = λ r s. added r (material_of m);
  rest = λ r s. r.material_count;
  is = λ r s. refl;
  idles = λ s. refl;
  silent = λ s. refl;
  fault_canon = λ r s. ap (λ (k : ℕ). or_else k (or_else (material_fault m) (or_else k (first (leb (material_of m).pole_count r.pole_slots) too_many_poles (first (material_steps (eps_of r) r.spacings.dt (material_of m)) bad_pole (first (ltb r.material_count 16) full 0)))))) (canon_fault r);
  next_canon = λ r s h. added_kept r (material_of m);
  rest_canon = λ r s h. refl;
  counts = λ r s. nought _;
  holds = λ said r s h e. record { held = held_added r (material_of m) h.held (read_held (entry_of m)) (add_none r (material_of m) (adding m r e)).free; fits = h.fits };
  sound = λ r s h e. added_whole r (material_of m) h.sixteen (adding m r e);
}

build : Regular (form build_dispersion) 0 (SaidAct build_dispersion)
unfolding build_call poles_fault store_lengths canon
build = record {
  fault = λ r s. poles_fault r (length s.poles);
  next = λ r s. with_built r (built_of r);
  rest = λ r s. zeros (length s.poles);
  is = λ r s. refl;
  idles = λ s. refl;
  silent = λ s. refl;
  fault_canon = λ r s. lent_kept r (eqb (length s.poles) (store_lengths r).poles);
  next_canon = λ r s h. ap (λ (n : ℕ). with_built (canon r) n) (built_kept r);
  rest_canon = λ r s h. refl;
  counts = λ r s. nought _;
  holds = λ said r s h e. record { held = held_built r h.held (built_of r); fits = fit_poles s h.fits _ (zeros_fit (length s.poles)) };
  sound = λ r s h e. built_whole r (lent_fine r (eqb (length s.poles) (store_lengths r).poles) e);
}

-- ---- walls
no_layer : layer_fits (all_axes false) false ≡ true
unfolding layer_fits
no_layer = refl

layer_any : (a : List Bool) → layer_fits a true ≡ true
unfolding layer_fits
layer_any a = refl

periodic : (x y z : Bool) → Regular (form (set_periodic x y z)) 0 (SaidAct (set_periodic x y z))
unfolding set_periodic_call canon
periodic x y z = record {
  fault = λ r s. fault_of r;
  next = λ r s. with_walls r (x ∷ y ∷ z ∷ []) r.active r.layer_on;
  rest = λ r s. tt;
  is = λ r s. refl;
  idles = λ s. refl;
  silent = λ s. refl;
  fault_canon = λ r s. canon_fault r;
  next_canon = λ r s h. refl;
  rest_canon = λ r s h. refl;
  counts = λ r s. nought _;
  holds = λ said r s h e. record { held = held_walls r h.held (x ∷ y ∷ z ∷ []) r.active r.layer_on refl h.held.walls.1; fits = h.fits };
  sound = λ r s h e. walls_whole r (x ∷ y ∷ z ∷ []) r.active r.layer_on e (parts r e).layer;
}

plain_walls : (on : Bool) → Regular (storing (λ r s. set_plain_call on r (layer_of s)) layer_of put_layer) 0 (Unit {0})
unfolding set_plain_call plain_fault store_lengths canon
plain_walls on = record {
  fault = λ r s. plain_fault r (layer_of s);
  next = λ r s. with_walls r (all_axes on) (all_axes false) false;
  rest = λ r s. cleared_layer r.nx r.ny r.nz (layer_of s);
  is = λ r s. refl;
  idles = λ s. refl;
  silent = λ s. refl;
  fault_canon = λ r s. lent_kept r (layer_lent (layer_of s) (store_lengths r));
  next_canon = λ r s h. refl;
  rest_canon = λ r s h. refl;
  counts = λ r s. nought _;
  holds = λ said r s h e. record { held = held_walls r h.held (all_axes on) (all_axes false) false refl refl; fits = fit_cleared s h.fits r.nx r.ny r.nz (layer_of s) };
  sound = λ r s h e. walls_whole r (all_axes on) (all_axes false) false (lent_fine r (layer_lent (layer_of s) (store_lengths r)) e) no_layer;
}

lossy : (a : LossyAbsorber) → Regular (form (walls_lossy a)) 0 (SaidAct (walls_lossy a))
unfolding set_lossy_call lossy_fault lossy_media no_wall lossy_sigma store_lengths canon
lossy a = record {
  fault = λ r s. lossy_fault r a.order (length s.psi_e) (length s.psi_h) (length s.tables) (length s.media);
  next = λ r s. with_walls r r.periodic (all_axes false) false;
  rest = λ r s. record { walls = cleared_layer r.nx r.ny r.nz (layer_of s); media = lossy_media r a s.media };
  is = λ r s. refl;
  idles = λ s. refl;
  silent = λ s. refl;
  fault_canon = λ r s. ap (λ (n : ℕ). or_else n (first (leb a.order 8) bad_order 0))
      (lent_kept r (layer_long (length s.psi_e) (length s.psi_h) (length s.tables) (store_lengths r) && eqb (length s.media) (store_lengths r).media));
  next_canon = λ r s h. refl;
  rest_canon = λ r s h. refl;
  counts = λ r s. nought _;
  holds = λ said r s h e. record { held = held_walls r h.held r.periodic (all_axes false) false h.held.walls.0 refl; fits = fit_media _ (fit_cleared s h.fits r.nx r.ny r.nz (layer_of s)) _ (lossy_fit r a s.media h.fits.media) };
  sound = λ r s h e.
      let lent = layer_long (length s.psi_e) (length s.psi_h) (length s.tables) (store_lengths r) && eqb (length s.media) (store_lengths r).media in
      walls_whole r r.periodic (all_axes false) false (lent_fine r lent (or_none (fault_lent r lent) _ e).0) no_layer;
}

cpml : (x y z : Bool) (t : ℕ) (g : List Float) (n : ℕ) → Regular (form (walls_cpml x y z t g n)) 0 (SaidAct (walls_cpml x y z t g n))
unfolding set_cpml_call cpml_fault active_axes store_lengths canon
cpml x y z t g n = let a : List Bool = x ∷ y ∷ z ∷ [] in record {
  fault = λ r s. cpml_fault r (length s.psi_e) (length s.psi_h) (length s.tables) (length g);
  next = λ r s. with_walls r (periodic_left r.periodic a) (active_axes r a t) true;
  rest = λ r s. absorbed (active_axes r a t) (layer (zeros (length s.psi_e)) (zeros (length s.psi_h)) (layer_tables r.nx r.ny r.nz (active_axes r a t) g));
  is = λ r s. refl;
  idles = λ s. refl;
  silent = λ s. refl;
  fault_canon = λ r s.
      lent_kept r (layer_long (length s.psi_e) (length s.psi_h) (length s.tables) (store_lengths r) && eqb (length g) (store_lengths r).tables);
  next_canon = λ r s h. refl;
  rest_canon = λ r s h. refl;
  counts = λ r s. nought _;
  holds = λ said r s h e. record {
    held = held_walls r h.held (periodic_left r.periodic a) (active_axes r a t) true (left_three r.periodic a) refl;
    fits = fit_layer s h.fits (layer (zeros (length s.psi_e)) (zeros (length s.psi_h)) (layer_tables r.nx r.ny r.nz (active_axes r a t) g))
        (zeros_fit (length s.psi_e)) (zeros_fit (length s.psi_h)) (layer_fit r.nx r.ny r.nz (active_axes r a t) g said);
  };
  sound = λ r s h e.
      walls_whole r (periodic_left r.periodic a) (active_axes r a t) true
      (lent_fine r (layer_long (length s.psi_e) (length s.psi_h) (length s.tables) (store_lengths r) && eqb (length g) (store_lengths r).tables) e) (layer_any (active_axes r a t));
}

-- ---- the wave: the region may hang on the sizes, and is one that is there
wave : (g : Record → Region) → ((r : Record) → g (canon r) ≡ g r) → ((r : Record) → canon_region (g r) ≡ g r)
    → Regular (storing (λ r s. region_call r (g r) s.aux) (λ s. s.aux) put_aux) 0 (Unit {0})
unfolding region_call region_fault store_lengths canon
wave g same there = record {
  fault = λ r s. region_fault r (g r) (length s.aux);
  next = λ r s. with_region r (g r) (restarted r.clock);
  rest = λ r s. zeros (length s.aux);
  is = λ r s. refl;
  idles = λ s. refl;
  silent = λ s. refl;
  fault_canon = λ r s. ap (λ (x : Region). region_fault (canon r) x (length s.aux)) (same r)
      ∙ ap (λ (n : ℕ). or_else n (first (corners_fit (g r) r.nx r.ny r.nz) bad_region 0)) (lent_kept r (eqb (length s.aux) (store_lengths r).aux));
  next_canon = λ r s h. ap (λ (x : Region). with_region (canon r) x (restarted r.clock)) (same r ∙ sym (there r));
  rest_canon = λ r s h. refl;
  counts = λ r s. nought _;
  holds = λ said r s h e. record { held = held_region r h.held (g r); fits = fit_aux s h.fits _ (zeros_fit (length s.aux)) };
  sound = λ r s h e.
      let k = or_none (fault_lent r (eqb (length s.aux) (store_lengths r).aux)) _ e in
      region_whole r (g r) (restarted r.clock) (lent_fine r (eqb (length s.aux) (store_lengths r).aux) k.0) (first_none (corners_fit (g r) r.nx r.ny r.nz) 8 0 k.1).0;
}

slab_there : (k0 k1 : ℕ) (r : Record) → canon_region (slab_z r k0 k1) ≡ slab_z r k0 k1
unfolding canon_region
slab_there k0 k1 r = refl

slab_same : (k0 k1 : ℕ) (r : Record) → slab_z (canon r) k0 k1 ≡ slab_z r k0 k1
unfolding canon
slab_same k0 k1 r = refl

injector_there : (k0 : ℕ) (r : Record) → canon_region (injector_z r k0) ≡ injector_z r k0
unfolding canon_region
injector_there k0 r = refl

injector_same : (k0 : ℕ) (r : Record) → injector_z (canon r) k0 ≡ injector_z r k0
unfolding canon
injector_same k0 r = refl

box_there : (i0 i1 j0 j1 k0 k1 : ℕ) → canon_region (box_region_of i0 i1 j0 j1 k0 k1) ≡ box_region_of i0 i1 j0 j1 k0 k1
unfolding canon_region
box_there i0 i1 j0 j1 k0 k1 = refl

-- ---- steps
steps_canon : (r : Record) (l : Lengths) (ids : List ℕ) (n : ℕ) → step_fault (canon r) l ids n ≡ step_fault r l ids n
unfolding step_fault store_lengths canon
steps_canon r l ids n =
    ap (λ (f : ℕ). or_else f (first (fresh_ids r.built_count ids) stale_material (first (leb (r.clock.steps + n) last_step) spent_clock 0)))
    (lent_kept r (same_lengths l (store_lengths r)))

known : (r : Record) (s : Stores) (n : ℕ) → step_fault r (lengths_of s) s.ids n ≡ 0 → Known r s.ids
known r s n e = (ready r s n e).0.polar.known

step_fine : (r : Record) (s : Stores) (n : ℕ) → step_fault r (lengths_of s) s.ids n ≡ 0 → fault_of r ≡ 0
unfolding step_fault
step_fine r s n e = lent_fine r (same_lengths (lengths_of s) (store_lengths r)) (or_none (fault_with r (lengths_of s)) _ e).0

one_step : (x : Float) → Regular (form (step x)) 1 (SaidAct (step x))
unfolding step_call canon
one_step x = record {
  fault = λ r s. step_fault r (lengths_of s) s.ids 1;
  next = λ r s. ticked r;
  rest = λ r s. stepped (eps_of r) (mu_of r) (light_of r) r x s;
  is = λ r s. refl;
  idles = λ s. refl;
  silent = λ s. refl;
  fault_canon = λ r s. steps_canon r (lengths_of s) s.ids 1;
  next_canon = λ r s h. ticked_kept r;
  rest_canon = λ r s h. stepped_kept (eps_of r) (mu_of r) (light_of r) r x s (known r s 1 h);
  counts = λ r s. refl;
  holds = λ said r s h e. record { held = held_tick r h.held (ready r s 1 e).1; fits = stepped_fit (eps_of r) (mu_of r) (light_of r) r x s h.fits };
  sound = λ r s h e. tick_whole r (step_fine r s 1 e);
}

-- the ids and what they are counted by stand from step to step
known_on : (eps0 mu0 c0 : Float) (r : Record) (x : Float) (s : Stores) → Known r s.ids → Known (ticked r) (stepped eps0 mu0 c0 r x s).ids
unfolding stepped
known_on eps0 mu0 c0 r x s k = k

abbrev canon_out : {A : Type 0} → Outcome A → Outcome A
canon_out o = outcome o.refusal (canon o.study) o.rest

ran_kept : (eps0 mu0 c0 : Float) (r : Record) (xs : List Float) (s : Stores) → Known r s.ids → ran eps0 mu0 c0 (canon r) xs s ≡ canon_out (ran eps0 mu0 c0 r xs s)
unfolding ran
ran_kept eps0 mu0 c0 r [] s k = refl
ran_kept eps0 mu0 c0 r (x ∷ xs) s k =
    rw (stepped_kept eps0 mu0 c0 r x s k, ticked_kept r) (ran_kept eps0 mu0 c0 (ticked r) xs (stepped eps0 mu0 c0 r x s) (known_on eps0 mu0 c0 r x s k))

ran_counts : (eps0 mu0 c0 : Float) (r : Record) (xs : List Float) (s : Stores) → (ran eps0 mu0 c0 r xs s).study.clock.steps ≡ r.clock.steps + length xs
unfolding ran
ran_counts eps0 mu0 c0 r [] s = nought _
ran_counts eps0 mu0 c0 r (x ∷ xs) s = let e = ran_counts eps0 mu0 c0 (ticked r) xs (stepped eps0 mu0 c0 r x s) in e ∙ omega arith

-- steps move the clock and nothing else of the record
ran_clock : (eps0 mu0 c0 : Float) (r : Record) (xs : List Float) (s : Stores) → (ran eps0 mu0 c0 r xs s).study ≡ with_clock r (ran eps0 mu0 c0 r xs s).study.clock
unfolding ran
ran_clock eps0 mu0 c0 r [] s = refl
ran_clock eps0 mu0 c0 r (x ∷ xs) s = ran_clock eps0 mu0 c0 (ticked r) xs (stepped eps0 mu0 c0 r x s)

many_steps : (xs : List Float) → Regular (form (run xs)) (length xs) (SaidAct (run xs))
unfolding run_call canon
many_steps xs = record {
  fault = λ r s. step_fault r (lengths_of s) s.ids (length xs);
  next = λ r s. (ran (eps_of r) (mu_of r) (light_of r) r xs s).study;
  rest = λ r s. (ran (eps_of r) (mu_of r) (light_of r) r xs s).rest;
  is = λ r s. refl;
  idles = λ s. refl;
  silent = λ s. refl;
  fault_canon = λ r s. steps_canon r (lengths_of s) s.ids (length xs);
  next_canon = λ r s h. ap (λ (o : Outcome Stores). o.study) (ran_kept (eps_of r) (mu_of r) (light_of r) r xs s (known r s (length xs) h));
  rest_canon = λ r s h. ap (λ (o : Outcome Stores). o.rest) (ran_kept (eps_of r) (mu_of r) (light_of r) r xs s (known r s (length xs) h));
  counts = λ r s. ran_counts (eps_of r) (mu_of r) (light_of r) r xs s;
  holds = λ said r s h e. ran_holds (eps_of r) (mu_of r) (light_of r) r xs s h (ready r s (length xs) e).1;
  sound = λ r s h e. ran_whole (eps_of r) (mu_of r) (light_of r) r xs s (step_fine r s (length xs) e);
}

-- ---- fields
clearing : Regular (form reset_fields) 0 (SaidAct reset_fields)
unfolding reset_call store_lengths canon
clearing = record {
  fault = λ r s. fault_lent r (reset_long (length s.electric) (length s.magnetic) (length s.psi_e) (length s.psi_h) (length s.poles) (store_lengths r));
  next = λ r s. r;
  rest = λ r s. reset (cleared s.electric) (cleared s.magnetic) (cleared s.psi_e) (cleared s.psi_h) (cleared s.poles);
  is = λ r s. refl;
  idles = λ s. refl;
  silent = λ s. refl;
  fault_canon = λ r s. lent_kept r (reset_long (length s.electric) (length s.magnetic) (length s.psi_e) (length s.psi_h) (length s.poles) (store_lengths r));
  next_canon = λ r s h. refl;
  rest_canon = λ r s h. refl;
  counts = λ r s. nought _;
  holds = λ said r s h e. record { held = h.held; fits = fit_reset s h.fits };
  sound = λ r s h e. lent_fine r (reset_long (length s.electric) (length s.magnetic) (length s.psi_e) (length s.psi_h) (length s.poles) (store_lengths r)) e;
}

energy : (n : ℕ) → Regular (form (total_energy n)) 0 (SaidAct (total_energy n))
unfolding energy_call energy_fault energy_of store_lengths canon
energy n = record {
  fault = λ r s. energy_fault r (length s.electric) (length s.magnetic) (length s.media);
  next = λ r s. r;
  rest = λ r s. energy_of (eps_of r) (mu_of r) r s.electric s.magnetic s.media;
  is = λ r s. refl;
  idles = λ s. refl;
  silent = λ s. refl;
  fault_canon = λ r s.
      lent_kept r (eqb (length s.electric) (store_lengths r).electric && eqb (length s.magnetic) (store_lengths r).magnetic && eqb (length s.media) (store_lengths r).media);
  next_canon = λ r s h. refl;
  rest_canon = λ r s h. refl;
  counts = λ r s. nought _;
  holds = λ said r s h e. h;
  sound = λ r s h e. lent_fine r (eqb (length s.electric) (store_lengths r).electric && eqb (length s.magnetic) (store_lengths r).magnetic && eqb (length s.media) (store_lengths r).media) e;
}

plane : (k n : ℕ) → Regular (form (plane_reading k n)) 0 (SaidAct (plane_reading k n))
unfolding plane_call plane_fault plane_of store_lengths canon
plane k n = record {
  fault = λ r s. plane_fault r k (length s.electric) (length s.magnetic);
  next = λ r s. r;
  rest = λ r s. plane_of r k s.electric s.magnetic;
  is = λ r s. refl;
  idles = λ s. refl;
  silent = λ s. refl;
  fault_canon = λ r s. ap (λ (n : ℕ). or_else n (first (ltb k r.nz) no_such_plane 0))
      (lent_kept r (eqb (length s.electric) (store_lengths r).electric && eqb (length s.magnetic) (store_lengths r).magnetic));
  next_canon = λ r s h. refl;
  rest_canon = λ r s h. refl;
  counts = λ r s. nought _;
  holds = λ said r s h e. h;
  sound = λ r s h e.
      let lent = eqb (length s.electric) (store_lengths r).electric && eqb (length s.magnetic) (store_lengths r).magnetic in
      lent_fine r lent (or_none (fault_lent r lent) _ e).0;
}

-- ---- the length of a save
asked_length : (n : ℕ) → Regular (form (ask_length n)) 0 (SaidAct (ask_length n))
unfolding length_call save_length canon
asked_length n = record {
  fault = λ r s. fault_of r;
  next = λ r s. r;
  rest = λ r s. save_length r;
  is = λ r s. refl;
  idles = λ s. refl;
  silent = λ s. refl;
  fault_canon = λ r s. canon_fault r;
  next_canon = λ r s h. refl;
  rest_canon = λ r s h. refl;
  counts = λ r s. nought _;
  holds = λ said r s h e. h;
  sound = λ r s h e. e;
}

pub regular : (c : Act) → Regular (form c) (weight_of c) (SaidAct c)
regular (put_box b what n) = put_box_lem b what n
regular (assign_halfspace id k0) = half id k0
regular (add_material m n) = add m n
regular build_dispersion = build
regular (set_periodic x y z) = periodic x y z
regular walls_periodic = plain_walls true
regular walls_conductor = plain_walls false
regular (walls_lossy a) = lossy a
regular (walls_cpml x y z t g n) = cpml x y z t g n
regular (slab k0 k1) = wave (λ r. slab_z r k0 k1) (slab_same k0 k1) (slab_there k0 k1)
regular (injector k0) = wave (λ r. injector_z r k0) (injector_same k0) (injector_there k0)
regular (box_region i0 i1 j0 j1 k0 k1) = wave (λ r. box_region_of i0 i1 j0 j1 k0 k1) (λ r. refl) (λ r. box_there i0 i1 j0 j1 k0 k1)
regular (step x) = one_step x
regular (run xs) = many_steps xs
regular reset_fields = clearing
regular (total_energy n) = energy n
regular (plane_reading k n) = plane k n
regular (ask_length n) = asked_length n

-- a reading leaves the record
pub reads : (n k : ℕ) (r : Record) (s : Stores)
    → ((regular (total_energy n)).next r s ≡ r) × ((regular (plane_reading k n)).next r s ≡ r) × ((regular (ask_length n)).next r s ≡ r)
unfolding regular energy plane asked_length
reads n k r s = (refl, refl, refl)

-- a step and a run move the clock and nothing else of it
pub moves : (x : Float) (xs : List Float) (r : Record) (s : Stores)
    → ((regular (step x)).next r s ≡ with_clock r ((regular (step x)).next r s).clock) × ((regular (run xs)).next r s ≡ with_clock r ((regular (run xs)).next r s).clock)
unfolding regular one_step many_steps
moves x xs r s = (refl, ran_clock (eps_of r) (mu_of r) (light_of r) r xs s)
