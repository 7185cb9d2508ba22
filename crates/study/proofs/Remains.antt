-- The record after an accepted call is one that memory can hold, and so are the stores with some put anew. Assumes nothing.
use Prim.Native.Nat.{ℕ, zero, suc, ◌+◌, ◌≤◌, ◌<◌}
use native.Mathlib.Nat.{le_of_suc-le-suc, not-suc-le-zero}
use native.Mathlib.Omega.{arith}
use mathlib.Core.Path.{◌≡◌, refl, sym, ap, subst, ◌∙◌}
use mathlib.Core.Bool.{Bool, true, false}
use mathlib.Core.List.{List, [], ◌∷◌}
use lib.Dec.{T, eqb, lt→ltb}
use lib.ListN.{length, get_or, set, replicate, length-set}
use lib.Seq.{get_or-set_same, get_or-set_other}
use lib.Ieee.{Float, binary64}
use lib.Ieee.Fits.{and_i, and_l, and_r, add-fits}
use lib.Ieee.Bits.{of_bits-fits}
use borrow.Author.Tests.{eqb-true, eqb-false}
use Rattle.codec.specs.Lists.{every}
use Rattle.root.specs.Rounded.{zero_f}
use Rattle.root.specs.declared.Spacings.{Spacings}
use Rattle.dispersion.specs.declared.Pole.{Pole}
use Rattle.dispersion.specs.declared.DispersiveMaterial.{DispersiveMaterial}
use Rattle.dispersion.specs.Material.{blank_slot, vacuum_material}
use Rattle.grid.specs.declared.Region.{Region}
use Rattle.grid.specs.declared.Record.{Record}
use Rattle.grid.specs.Edited.{with_walls, with_built, with_region}
use Rattle.grid.specs.Fault.{material_at, beyond}
use Rattle.grid.specs.Canon.{keep_first, canon_material}
use Rattle.grid.specs.Stores.{Stores, cells, store_lengths}
use Rattle.cells.specs.declared.IndexBox.{IndexBox}
use Rattle.opening.specs.Opening.{open_record, open_stores}
use Rattle.opening.specs.Layer.{Layer, cleared_layer}
use Rattle.materials.specs.Materials.{Placed, placed, medium_at, media_set, ids_set, assigned, added}
use Rattle.fields.specs.Fields.{reset, cleared}
use Rattle.tfsf.specs.Wave.{restarted}
use Rattle.step.specs.Step.{last_step, stepped, ticked}
use Rattle.run.specs.Run.{ran}
use Rattle.block.specs.Inner.Held.{held, pole_held, MaterialHeld, Held}
use Rattle.format.specs.InMemory.{StoresHeld}
use Rattle.study.specs.Inner.Holding.{Holding}
use Rattle.study.specs.Calls.{put_media, put_placed, put_poles, put_layer, put_aux, put_reset, placed_of}
use Rattle.study.proofs.Fits.{All, small, all_replicate, zeros_fit, media_fit, tables_fit, set_fit, ids_fit_lem, stepped_fit}

-- ---- records
module _ (r : Record) (h : Held r) where
  pub held_walls : (p a : List Bool) (on : Bool) → length p ≡ 3 → length a ≡ 3 → Held (with_walls r p a on)
  held_walls p a on x y = record {
    walls = (x, y);
    x = h.x;
    y = h.y;
    z = h.z;
    t = h.t;
    time = h.time;
    steps = h.steps;
    sixteen = h.sixteen;
    each = h.each;
  }

  pub held_built : (n : ℕ) → Held (with_built r n)
  held_built n = record {
    walls = h.walls;
    x = h.x;
    y = h.y;
    z = h.z;
    t = h.t;
    time = h.time;
    steps = h.steps;
    sixteen = h.sixteen;
    each = h.each;
  }

  pub held_region : (g : Region) → Held (with_region r g (restarted r.clock))
  held_region g = record {
    walls = h.walls;
    x = h.x;
    y = h.y;
    z = h.z;
    t = h.t;
    time = of_bits-fits binary64 0;
    steps = h.steps;
    sixteen = h.sixteen;
    each = h.each;
  }

  pub held_tick : r.clock.steps + 1 ≤ last_step → Held (ticked r)
  held_tick b = record {
    walls = h.walls;
    x = h.x;
    y = h.y;
    z = h.z;
    t = h.t;
    time = add-fits binary64 _ _;
    steps = omega (arith, b);
    sixteen = h.sixteen;
    each = h.each;
  }

-- a material as a record keeps it
keep_length : (n : ℕ) (d : Pole) (l : List Pole) → length (keep_first n d l) ≡ length l
unfolding keep_first
keep_length n d [] = refl
keep_length zero d (x ∷ l) = ap suc (keep_length zero d l)
keep_length (suc n) d (x ∷ l) = ap suc (keep_length n d l)

keep_each : (P : Pole → Type 0) (d : Pole) → P d → (n : ℕ) (l : List Pole) → ((i : ℕ) → i < length l → P (get_or l i d)) → (i : ℕ) → P (get_or (keep_first n d l) i d)
unfolding keep_first
keep_each P d p n [] h i = p
keep_each P d p zero (x ∷ l) h zero = p
keep_each P d p zero (x ∷ l) h (suc i) = keep_each P d p zero l (λ j b. h (suc j) (omega (arith, b))) i
keep_each P d p (suc n) (x ∷ l) h zero = h 0 (omega arith)
keep_each P d p (suc n) (x ∷ l) h (suc i) = keep_each P d p n l (λ j b. h (suc j) (omega (arith, b))) i

blank_held : T (pole_held blank_slot)
blank_held = and_i (held zero_f) (held zero_f) (of_bits-fits binary64 0) (of_bits-fits binary64 0)

material_held : (m : DispersiveMaterial) → MaterialHeld m → MaterialHeld (canon_material m)
unfolding canon_material
material_held m h = record {
  eps = h.eps;
  loss = h.loss;
  mu = h.mu;
  four = keep_length m.pole_count blank_slot m.poles ∙ h.four;
  each = λ i b.
      keep_each (λ (p : Pole). T (pole_held p)) blank_slot blank_held m.pole_count m.poles (λ j k. h.each j (omega (arith, k, h.four))) i;
}

set_each : (P : DispersiveMaterial → Type 0) (l : List DispersiveMaterial) (n : ℕ) (m : DispersiveMaterial) → n < length l → P m
    → ((i : ℕ) → i < length l → P (get_or l i beyond)) → (i : ℕ) → i < length l → P (get_or (set l n m) i beyond)
set_each P l n m low p h i b = go (eqb i n) refl
  where
    go : (t : Bool) → eqb i n ≡ t → P (get_or (set l n m) i beyond)
    go true e = subst (λ (k : ℕ). P (get_or (set l n m) k beyond)) (sym (eqb-true i n e)) (subst P (sym (get_or-set_same l n m beyond low)) p)
    go false e = subst P (sym (get_or-set_other l n i m beyond (eqb-false i n e))) (h i b)

pub held_added : (r : Record) (m : DispersiveMaterial) → Held r → MaterialHeld m → r.material_count < 16 → Held (added r m)
unfolding added
held_added r m h k low = record {
  walls = h.walls;
  x = h.x;
  y = h.y;
  z = h.z;
  t = h.t;
  time = h.time;
  steps = h.steps;
  sixteen = length-set r.materials r.material_count (canon_material m) ∙ h.sixteen;
  each = λ i b.
      set_each MaterialHeld r.materials r.material_count (canon_material m) (omega (arith, low, h.sixteen)) (material_held m k)
      (λ j c. h.each j (omega (arith, c, h.sixteen))) i (omega (arith, b, h.sixteen));
}

-- ---- the opened study
vacuum_held : MaterialHeld vacuum_material
vacuum_held = record {
  eps = of_bits-fits binary64 0x3FF0000000000000;
  loss = of_bits-fits binary64 0;
  mu = of_bits-fits binary64 0x3FF0000000000000;
  four = refl;
  each = λ i b. same (λ (p : Pole). T (pole_held p)) blank_slot blank_held 4 i;
}
  where
    same : (P : Pole → Type 0) (d : Pole) → P d → (n i : ℕ) → P (get_or (replicate n d) i d)
    same P d p zero i = p
    same P d p (suc n) zero = p
    same P d p (suc n) (suc i) = same P d p n i

replicated : (P : DispersiveMaterial → Type 0) (d m : DispersiveMaterial) → P m → (n i : ℕ) → i < n → P (get_or (replicate n m) i d)
replicated P d m p zero i b = absurd (not-suc-le-zero b)
replicated P d m p (suc n) zero b = p
replicated P d m p (suc n) (suc i) b = replicated P d m p n i (le_of_suc-le-suc b)

open_fits : (r : Record) → StoresHeld (open_stores r)
unfolding open_stores
open_fits r =
    let l = store_lengths r in
    record {
      electric = zeros_fit l.electric;
      magnetic = zeros_fit l.magnetic;
      media = media_fit (cells r);
      psi_e = zeros_fit l.psi_e;
      psi_h = zeros_fit l.psi_h;
      tables = tables_fit r.nx r.ny r.nz;
      poles = zeros_fit l.poles;
      aux = zeros_fit l.aux;
      ids = all_replicate small (cells r) 0 tt;
    }

pub open_holds : (nx ny nz slots : ℕ) (s : Spacings) (c : ℕ) → All (s.dx ∷ s.dy ∷ s.dz ∷ s.dt ∷ []) → Holding (open_record nx ny nz slots s c) (open_stores (open_record nx ny nz slots s c))
unfolding every
open_holds nx ny nz slots s c a =
    let x = and_l (held s.dx) _ a in
    let r1 = and_r (held s.dx) _ a in
    let y = and_l (held s.dy) _ r1 in
    let r2 = and_r (held s.dy) _ r1 in
    let z = and_l (held s.dz) _ r2 in
    let t = and_l (held s.dt) _ (and_r (held s.dz) _ r2) in
    record {
      held = record {
        walls = (refl, refl);
        x = x;
        y = y;
        z = z;
        t = t;
        time = of_bits-fits binary64 0;
        steps = omega arith;
        sixteen = refl;
        each = λ i b. replicated MaterialHeld beyond vacuum_material vacuum_held 16 i b;
      };
      fits = open_fits (open_record nx ny nz slots s c);
    }

-- ---- stores with some put anew
module _ (s : Stores) (f : StoresHeld s) where
  pub fit_placed : (p : Placed) → All p.media → T (every small p.ids) → StoresHeld (put_placed p s)
  fit_placed p a b = record { electric = f.electric; magnetic = f.magnetic; media = a; psi_e = f.psi_e; psi_h = f.psi_h; tables = f.tables; poles = f.poles; aux = f.aux; ids = b }

  pub fit_media : (m : List Float) → All m → StoresHeld (put_media m s)
  fit_media m a = fit_placed (placed m s.ids) a f.ids

  pub fit_poles : (p : List Float) → All p → StoresHeld (put_poles p s)
  fit_poles p a = record { electric = f.electric; magnetic = f.magnetic; media = f.media; psi_e = f.psi_e; psi_h = f.psi_h; tables = f.tables; poles = a; aux = f.aux; ids = f.ids }

  pub fit_aux : (x : List Float) → All x → StoresHeld (put_aux x s)
  fit_aux x a = record { electric = f.electric; magnetic = f.magnetic; media = f.media; psi_e = f.psi_e; psi_h = f.psi_h; tables = f.tables; poles = f.poles; aux = a; ids = f.ids }

  pub fit_layer : (l : Layer) → All l.psi_e → All l.psi_h → All l.tables → StoresHeld (put_layer l s)
  fit_layer l a b c = record { electric = f.electric; magnetic = f.magnetic; media = f.media; psi_e = a; psi_h = b; tables = c; poles = f.poles; aux = f.aux; ids = f.ids }

  pub fit_cleared : (nx ny nz : ℕ) (l : Layer) → StoresHeld (put_layer (cleared_layer nx ny nz l) s)
  unfolding cleared_layer
  fit_cleared nx ny nz l = fit_layer (cleared_layer nx ny nz l) (zeros_fit (length l.psi_e)) (zeros_fit (length l.psi_h)) (tables_fit nx ny nz)

  pub fit_reset : StoresHeld (put_reset (reset (cleared s.electric) (cleared s.magnetic) (cleared s.psi_e) (cleared s.psi_h) (cleared s.poles)) s)
  fit_reset = record {
    electric = zeros_fit (length s.electric);
    magnetic = zeros_fit (length s.magnetic);
    media = f.media;
    psi_e = zeros_fit (length s.psi_e);
    psi_h = zeros_fit (length s.psi_h);
    tables = f.tables;
    poles = zeros_fit (length s.poles);
    aux = f.aux;
    ids = f.ids;
  }

-- an assigned material: counted, so one of the sixteen
pub fit_assigned : (r : Record) (s : Stores) (b : IndexBox) (id : ℕ) → Held r → StoresHeld s → id < 16 → StoresHeld (put_placed (assigned r b id (placed_of s)) s)
unfolding assigned
fit_assigned r s b id h f low =
    let m = h.each id low in
    let d = material_at r id in
    fit_placed s f (placed (media_set r.nx r.ny r.nz b (medium_at d.eps_inf d.mu_r d.sigma) s.media) (ids_set r.nx r.ny r.nz b id s.ids))
    (set_fit r.nx r.ny r.nz b d.eps_inf d.mu_r d.sigma s.media m.eps m.mu m.loss f.media)
    (ids_fit_lem r.nx r.ny r.nz b id s.ids (lt→ltb id 4294967296 (omega (arith, low))) f.ids)

-- ---- steps
pub ran_holds : (eps0 mu0 c0 : Float) (r : Record) (xs : List Float) (s : Stores) → Holding r s → r.clock.steps + length xs ≤ last_step
    → Holding (ran eps0 mu0 c0 r xs s).study (ran eps0 mu0 c0 r xs s).rest
unfolding ran
ran_holds eps0 mu0 c0 r [] s h b = h
ran_holds eps0 mu0 c0 r (x ∷ xs) s h b =
    ran_holds eps0 mu0 c0 (ticked r) xs (stepped eps0 mu0 c0 r x s)
    (record { held = held_tick r h.held (omega (arith, b)); fits = stepped_fit eps0 mu0 c0 r x s h.fits }) (omega (arith, b))
