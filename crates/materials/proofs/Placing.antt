-- The cell numbers after a box was set in each of the store's three parts, and what the calls may lean on. Assumes nothing.
use Prim.Native.Nat.{ℕ, zero, suc, ◌+◌, ◌*◌, ◌≤◌, ◌<◌}
use native.Mathlib.Nat.{zero-mul, one-mul, mul_comm}
use native.Mathlib.Omega.{arith}
use mathlib.Core.Path.{◌≡◌, refl, sym, ap, ◌∙◌}
use mathlib.Core.Bool.{true, cond}
use mathlib.Core.List.{List}
use lib.ListN.{length, get_or}
use lib.Seq.{take_all}
use lib.Ieee.{Float, nan}
use borrow.Author.Tests.{le-leb, lt-ltb, ltb-true, eqb-true}
use lib.Dec.{eqb}
use Rattle.codec.specs.Lists.{put, part}
use Rattle.codec.proofs.Lists.{put_whole, part_length}
use Rattle.cells.specs.declared.IndexBox.{IndexBox}
use Rattle.cells.specs.Cells.{cellwise, cell_index, components}
use Rattle.cells.specs.Reading.{block_end}
use Rattle.cells.specs.Inner.Blocks.{on, in_blocks, set_box}
use Rattle.cells.specs.Box.{in_box, within}
use Rattle.grid.specs.Fault.{material_at}
use Rattle.materials.specs.Materials.{medium_at, media_set, ids_set, Placed, placed, assigned, is_known, put_into, put_fault, filled, put_box_call, halfspace, uncounted, halfspace_call}
use Rattle.materials.specs.Inner.Fillable.{Fillable}
use Rattle.materials.specs.declared.Put.{Put}
use Rattle.materials.specs.declared.Put.TheVariants.{Numbers, Library}
use Rattle.grid.specs.declared.Record.{Record}
use Rattle.grid.specs.Inner.Sound.{Sound}
use Rattle.grid.specs.Stores.{store_lengths, outcome, settle}
use Rattle.grid.proofs.Tests.{and_left, and_right, first_none, or_none}
use Rattle.grid.proofs.Settled.{lent_none}
use Rattle.cells.proofs.Blocks.{joined_same}
use Rattle.cells.proofs.Sweeps.{Keeps, blocks_length, sweep_none, sweep_more}
use Rattle.cells.proofs.Pointwise.{get_d_part, box_keeps, box_at, cellwise_same, cell_in, cells_same}

-- all of a list
on_whole : {A : Type 0} (F : List A → List A) (n : ℕ) (s : List A) → length s ≡ n → length (F s) ≡ n → on 0 n F s ≡ F s
unfolding on part
on_whole {A} F n s e f = ap (λ (t : List A). put s 0 (F t)) (take_all n s (omega arith)) ∙ put_whole s (F s) (f ∙ sym e)

module _ (nx ny nz : ℕ) (b : IndexBox) (eps mu sigma : Float) (s : List Float) (long : length s ≡ 3 * (nz * (ny * nx))) where
  N : ℕ
  N = nz * (ny * nx)

  each : ℕ → List Float → List Float
  each c = set_box nx ny nz b (medium_at eps mu sigma c)

  keeps : Keeps N each
  unfolding N each
  keeps c l h = box_keeps (medium_at eps mu sigma c) nx ny nz b c l h

  upto : ℕ → List Float
  upto c = on 0 (3 * N) (in_blocks 3 N 0 c each) s

  size : length s ≡ 3 * N
  unfolding N
  size = long

  fits : 0 + 3 * N ≤ length s
  fits = omega (arith, size)

  three_turns : on (2 * N) N (each 2) (on N N (each 1) (on 0 N (each 0) s)) ≡ upto 3
  unfolding upto
  three_turns =
      let p0 : 0 + 0 * N ≡ 0 = omega (arith, zero-mul N) in
      let p1 : 0 + 1 * N ≡ N = omega (arith, one-mul N) in
      let p2 : 0 + 2 * N ≡ 2 * N = omega arith in
      let t0 : on 0 N (each 0) s ≡ upto 1 =
      ap (on 0 N (each 0)) (sweep_none 0 3 N 0 each keeps s fits)
      ∙ ap (λ (q : ℕ). on q N (each 0) (upto 0)) (sym p0)
      ∙ sweep_more 0 3 N 0 each keeps s fits 0 (omega arith) (omega arith) in
      let t1 : on N N (each 1) (upto 1) ≡ upto 2 =
      ap (λ (q : ℕ). on q N (each 1) (upto 1)) (sym p1) ∙ sweep_more 0 3 N 0 each keeps s fits 1 (omega arith) (omega arith) in
      let t2 : on (2 * N) N (each 2) (upto 2) ≡ upto 3 =
      ap (λ (q : ℕ). on q N (each 2) (upto 2)) (sym p2) ∙ sweep_more 0 3 N 0 each keeps s fits 2 (omega arith) (omega arith) in
      ap (λ (t : List Float). on (2 * N) N (each 2) (on N N (each 1) t)) t0 ∙ ap (on (2 * N) N (each 2)) t1 ∙ t2

  part_set : (c : ℕ) → c < 3 → cond (within 0 3 c) (each c (part s (c * N) N)) (part s (c * N) N) ≡
      cellwise nx ny nz (λ i j k. cond (in_box b i j k) (medium_at eps mu sigma c) (get_or s (c * (nx * ny * nz) + cell_index nx ny i j k) nan))
  unfolding N each
  part_set c h =
      let short : length (part s (c * (nz * (ny * nx))) (nz * (ny * nx))) ≡ nz * (ny * nx) =
      part_length s (c * (nz * (ny * nx))) (nz * (ny * nx)) (omega (arith, long, block_end c 3 (nz * (ny * nx)) h)) in
      rw (le-leb 0 c (omega arith), lt-ltb c 3 h)
      (box_at (medium_at eps mu sigma c) nan nx ny nz b (part s (c * (nz * (ny * nx))) (nz * (ny * nx))) short
      ∙ cellwise_same nx ny nz _ _ (λ i j k p q r. ap (λ (x : Float). cond (in_box b i j k) (medium_at eps mu sigma c) x)
      (get_d_part s (c * (nz * (ny * nx))) (nz * (ny * nx)) (cell_index nx ny i j k) nan (cell_in nx ny nz i j k p q r)
      ∙ ap (λ (n : ℕ). get_or s (c * n + cell_index nx ny i j k) nan) (sym (cells_same nx ny nz)))))

  whole_set : upto 3 ≡ media_set nx ny nz b (medium_at eps mu sigma) s
  unfolding upto media_set components in_blocks
  whole_set =
      on_whole (in_blocks 3 N 0 3 each) (3 * N) s size (blocks_length 3 N 0 each keeps 3 s size)
      ∙ joined_same 3 _ _ part_set

  pub media_set_lem : on (2 * (nz * (ny * nx))) (nz * (ny * nx)) (set_box nx ny nz b sigma)
      (on (nz * (ny * nx)) (nz * (ny * nx)) (set_box nx ny nz b mu) (on 0 (nz * (ny * nx)) (set_box nx ny nz b eps) s)) ≡ media_set nx ny nz b (medium_at eps mu sigma) s
  unfolding N each
  media_set_lem = three_turns ∙ whole_set

pub ids_set_lem : (nx ny nz : ℕ) (b : IndexBox) (id : ℕ) (s : List ℕ) → length s ≡ nz * (ny * nx) → on 0 (nz * (ny * nx)) (set_box nx ny nz b id) s ≡ ids_set nx ny nz b id s
unfolding ids_set
ids_set_lem nx ny nz b id s e =
    on_whole (set_box nx ny nz b id) (nz * (ny * nx)) s e (box_keeps id nx ny nz b 0 s e) ∙ box_at id 0 nx ny nz b s e

-- ---- what is known where none of the first faults stands
sizes_of : (r : Record) → Sound r → (r.ny * r.nx ≤ 262144) × (r.nz * (r.ny * r.nx) ≤ 1048576)
sizes_of r s = (omega (arith, s.plane, mul_comm r.nx r.ny), omega (arith, s.cells, cells_same r.nx r.ny r.nz))

pub fillable : (r : Record) (media ids : ℕ) (what : Put) → put_fault r media ids what ≡ 0 → Fillable r media ids × (is_known r what ≡ true)
unfolding put_fault store_lengths
fillable r media ids what e =
    let h = or_none _ _ e in
    let l = lent_none r _ h.0 in
    let s = sizes_of r l.0 in
    let mediaFit = eqb media (3 * (r.nx * r.ny * r.nz)) in
    let ids_fit = eqb ids (r.nx * r.ny * r.nz) in
    let m = eqb-true media (3 * (r.nx * r.ny * r.nz)) (and_left mediaFit ids_fit l.1) in
    let i = eqb-true ids (r.nx * r.ny * r.nz) (and_right mediaFit ids_fit l.1) in (
      record {
        plane = s.0;
        grid = s.1;
        numbers = omega (arith, m, cells_same r.nx r.ny r.nz);
        places = omega (arith, i, cells_same r.nx r.ny r.nz);
        materials = omega (arith, l.0.materials);
      },
      (first_none (is_known r what) 6 0 h.1).0,
    )

-- a registered material is one of sixteen
pub known_below : (r : Record) (id media ids : ℕ) → Fillable r media ids → is_known r (Library id) ≡ true → id < 16
unfolding is_known
known_below r id media ids f e = let l : id < r.material_count = ltb-true id r.material_count e in omega (arith, f.materials)

-- the count left out
pub uncounted_of : (n : ℕ) (q r : Record) (id k0 c : ℕ) (s s' : Placed) → outcome n q (filled s' c) ≡ put_box_call r (halfspace r k0) (Library id) s → outcome n q s' ≡ halfspace_call r id k0 s
unfolding halfspace_call
uncounted_of n q r id k0 c s s' e = ap uncounted e

pub uncounted_settled : (f : ℕ) (r : Record) (s s' : Placed) (c : ℕ) → uncounted (settle f r (filled s 0) r (filled s' c)) ≡ settle f r s r s'
uncounted_settled zero r s s' c = refl
uncounted_settled (suc f) r s s' c = refl

-- both stores after a material was placed
pub assigned_are : (r : Record) (b : IndexBox) (id : ℕ) (s : Placed) (m : List Float) (i : List ℕ) → length s.ids ≡ r.nz * (r.ny * r.nx) →
    m ≡ media_set r.nx r.ny r.nz b (medium_at (material_at r id).eps_inf (material_at r id).mu_r (material_at r id).sigma) s.media →
    i ≡ on 0 (r.nz * (r.ny * r.nx)) (set_box r.nx r.ny r.nz b id) s.ids → placed m i ≡ assigned r b id s
unfolding assigned
assigned_are r b id s m i n p q = rw (p, q, ids_set_lem r.nx r.ny r.nz b id s.ids n)

-- and after a box was filled with what was asked for
pub numbers_put : (r : Record) (b : IndexBox) (what : Put) (eps mu sigma : Float) (s : Placed) (m : List Float) → what ≡ Numbers eps mu sigma →
    m ≡ media_set r.nx r.ny r.nz b (medium_at eps mu sigma) s.media → placed m s.ids ≡ put_into r b what s
unfolding put_into
numbers_put r b what eps mu sigma s m w e = rw (w, e) refl

pub material_put : (r : Record) (b : IndexBox) (what : Put) (id : ℕ) (s p : Placed) → what ≡ Library id → p ≡ assigned r b id s → p ≡ put_into r b what s
unfolding put_into
material_put r b what id s p w e = rw (w, e) refl
