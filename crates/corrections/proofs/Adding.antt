-- A number added in each cell of a box, row by row, against `correct_face`. Assumes nothing.
use Prim.Native.Nat.{ℕ, ◌+◌, ◌*◌, ◌≤◌, ◌<◌}
use native.Mathlib.Nat.{mul-one}
use native.Mathlib.Omega.{arith}
use mathlib.Core.Path.{◌≡◌, refl, sym, ap, ◌∙◌}
use mathlib.Core.Bool.{Bool, true, false, cond, ◌&&◌}
use mathlib.Core.List.{List, [], ◌∷◌}
use lib.Dec.{eqb}
use lib.ListN.{length, get_or, set}
use lib.Ieee.{Float, nan}
use borrow.Author.Tests.{eq-eqb, ne_eqb}
use Rattle.codec.specs.Lists.{put, part}
use Rattle.codec.proofs.Lists.{part_length, part_one, put_one}
use Rattle.root.specs.Rounded.{◌⊕◌}
use Rattle.cells.specs.declared.IndexBox.{IndexBox}
use Rattle.cells.specs.Cells.{joined, row, cellwise, cell_index, components}
use Rattle.cells.specs.Reading.{block_end}
use Rattle.cells.specs.Inner.Blocks.{on, in_blocks}
use Rattle.cells.specs.Box.{in_box, within}
use Rattle.cells.proofs.Blocks.{joined_same, on_block_lem}
use Rattle.cells.proofs.Sweeps.{Keeps, blocks_length, parts_whole, sweep_none, sweep_more, sweep_length}
use Rattle.cells.proofs.Pointwise.{part_row, get_d_part, cellwise_same, cell_in, cells_same, inner, nested_place}
use Rattle.cells.proofs.Extensional.{cellwise_are}
use Rattle.grid.specs.declared.Record.{Record}
use Rattle.grid.specs.Stores.{cells}
use Rattle.tfsf.specs.declared.faces.Face.{Face}
use Rattle.tfsf.specs.Corrections.{cell_number, correct_face}
use Rattle.corrections.specs.Inner.Faces.{add_row, add_plane, add_box}

-- ---- the loop over a row
each : (ℕ → Float) → ℕ → List Float → List Float
each f i l = (get_or l 0 nan ⊕ f i) ∷ []

each_keeps : (f : ℕ → Float) → Keeps 1 (each f)
unfolding each
each_keeps f c l e = refl

set_on : (s : List Float) (p : ℕ) (x : Float) → p < length s → set s p (get_or s p nan ⊕ x) ≡ on p 1 (λ (l : List Float). (get_or l 0 nan ⊕ x) ∷ []) s
unfolding on
set_on s p x h = put_one s p _ h ∙ ap (λ (l : List Float). put s p ((get_or l 0 nan ⊕ x) ∷ [])) (sym (part_one s p nan h))

module _ (at n a : ℕ) (f : ℕ → Float) (s : List Float) (fits : at + n ≤ length s) where
  one_wide : at + n * 1 ≤ length s
  one_wide = omega (arith, mul-one n)

  pub row_none : s ≡ on at n (add_row n a a f) s
  unfolding add_row each
  row_none = sweep_none at n 1 a (each f) (each_keeps f) s one_wide ∙ ap (λ (k : ℕ). on at k (in_blocks n 1 a a (each f)) s) (mul-one n)

  pub row_more : (i : ℕ) (t : List Float) (x : Float) → a ≤ i → i < n → t ≡ on at n (add_row n a i f) s → x ≡ f i →
      set t (at + i) (get_or t (at + i) nan ⊕ x) ≡ on at n (add_row n a (i + 1) f) s
  unfolding add_row each
  row_more i t x p k e y =
      let u : List Float = on at (n * 1) (in_blocks n 1 a i (each f)) s in
      let here : length u ≡ length s = sweep_length at n 1 a (each f) (each_keeps f) s one_wide i in
      ap (λ (l : List Float). set l (at + i) (get_or l (at + i) nan ⊕ x)) (e ∙ ap (λ (q : ℕ). on at q (in_blocks n 1 a i (each f)) s) (sym (mul-one n)))
      ∙ ap (λ (v : Float). set u (at + i) (get_or u (at + i) nan ⊕ v)) y
      ∙ set_on u (at + i) (f i) (omega (arith, here))
      ∙ ap (λ (q : ℕ). on (at + q) 1 (each f i) u) (sym (mul-one i))
      ∙ sweep_more at n 1 a (each f) (each_keeps f) s one_wide i p k
      ∙ ap (λ (q : ℕ). on at q (in_blocks n 1 a (i + 1) (each f)) s) (mul-one n)

-- ---- lengths
pub row_keeps : (nx i0 i1 : ℕ) (f : ℕ → ℕ → Float) → Keeps nx (λ (c : ℕ). add_row nx i0 i1 (λ i. f i c))
unfolding add_row
row_keeps nx i0 i1 f c l h = blocks_length nx 1 i0 _ (λ c l e. refl) i1 l (h ∙ sym (mul-one nx)) ∙ mul-one nx

pub plane_keeps : (nx ny : ℕ) (b : IndexBox) (f : ℕ → ℕ → ℕ → Float) → Keeps (ny * nx) (λ (c : ℕ). add_plane nx ny b (λ i j. f i j c))
unfolding add_plane
plane_keeps nx ny b f c l h = blocks_length ny nx b.j0 _ (row_keeps nx b.i0 b.i1 (λ i j. f i j c)) b.j1 l h

box_keeps : (nx ny nz : ℕ) (b : IndexBox) (f : ℕ → ℕ → ℕ → Float) (l : List Float) → length l ≡ nz * (ny * nx) → length (add_box nx ny nz b f l) ≡ nz * (ny * nx)
unfolding add_box
box_keeps nx ny nz b f l h = blocks_length nz (ny * nx) b.k0 _ (plane_keeps nx ny b f) b.k1 l h

-- ---- each cell
abbrev added : Bool → Float → Float → Float
added t x y = cond t (x ⊕ y) x

row_at : (nx i0 i1 : ℕ) (f : ℕ → Float) (l : List Float) → length l ≡ nx → add_row nx i0 i1 f l ≡ row nx (λ i. added (within i0 i1 i) (get_or l i nan) (f i))
unfolding add_row in_blocks
row_at nx i0 i1 f l h = joined_same nx _ _ (λ i k. go i k (within i0 i1 i))
  where
    one : (i : ℕ) → i < nx → part l (i * 1) 1 ≡ get_or l i nan ∷ []
    one i k = ap (λ (q : ℕ). part l q 1) (mul-one i) ∙ part_one l i nan (omega arith)

    go : (i : ℕ) → i < nx → (t : Bool) → cond t ((get_or (part l (i * 1) 1) 0 nan ⊕ f i) ∷ []) (part l (i * 1) 1) ≡ added t (get_or l i nan) (f i) ∷ []
    go i k true = ap (λ (q : List Float). (get_or q 0 nan ⊕ f i) ∷ []) (one i k)
    go i k false = one i k

plane_at_lem : (nx ny : ℕ) (b : IndexBox) (f : ℕ → ℕ → Float) (l : List Float) → length l ≡ ny * nx →
    add_plane nx ny b f l ≡ joined ny (λ j. row nx (λ i. added (within b.j0 b.j1 j && within b.i0 b.i1 i) (get_or l (j * nx + i) nan) (f i j)))
unfolding add_plane in_blocks
plane_at_lem nx ny b f l h = joined_same ny _ _ (λ j k. go j k (within b.j0 b.j1 j))
  where
    go : (j : ℕ) → j < ny → (t : Bool) →
        cond t (add_row nx b.i0 b.i1 (λ i. f i j) (part l (j * nx) nx)) (part l (j * nx) nx) ≡
        row nx (λ i. added (t && within b.i0 b.i1 i) (get_or l (j * nx + i) nan) (f i j))
    go j k true =
        row_at nx b.i0 b.i1 (λ i. f i j) (part l (j * nx) nx) (part_length l (j * nx) nx (omega (arith, h, block_end j ny nx k)))
        ∙ joined_same nx _ _ (λ i q. ap (λ (x : Float). added (within b.i0 b.i1 i) x (f i j) ∷ []) (get_d_part l (j * nx) nx i nan q))
    go j k false = part_row l (j * nx) nx nan (omega (arith, h, block_end j ny nx k))

box_at : (nx ny nz : ℕ) (b : IndexBox) (f : ℕ → ℕ → ℕ → Float) (l : List Float) → length l ≡ nz * (ny * nx) →
    add_box nx ny nz b f l ≡ cellwise nx ny nz (λ i j k. added (in_box b i j k) (get_or l (cell_index nx ny i j k) nan) (f i j k))
unfolding add_box in_blocks cellwise in_box
box_at nx ny nz b f l h = joined_same nz _ _ (λ k q. go k q (within b.k0 b.k1 k))
  where
    go : (k : ℕ) → k < nz → (t : Bool) →
        cond t (add_plane nx ny b (λ i j. f i j k) (part l (k * (ny * nx)) (ny * nx))) (part l (k * (ny * nx)) (ny * nx)) ≡
        joined ny (λ j. row nx (λ i. added (t && within b.j0 b.j1 j && within b.i0 b.i1 i) (get_or l (cell_index nx ny i j k) nan) (f i j k)))
    go k q true =
        plane_at_lem nx ny b (λ i j. f i j k) (part l (k * (ny * nx)) (ny * nx)) (part_length l (k * (ny * nx)) (ny * nx) (omega (arith, h, block_end k nz (ny * nx) q)))
        ∙ joined_same ny _ _ (λ j p. joined_same nx _ _ (λ i r. ap (λ (x : Float). added (within b.j0 b.j1 j && within b.i0 b.i1 i) x (f i j k) ∷ [])
        (get_d_part l (k * (ny * nx)) (ny * nx) (j * nx + i) nan (inner j i nx ny p r) ∙ ap (λ (n : ℕ). get_or l n nan) (nested_place nx ny i j k))))
    go k q false =
        let p : List Float = part l (k * (ny * nx)) (ny * nx) in
        let long = part_length l (k * (ny * nx)) (ny * nx) (omega (arith, h, block_end k nz (ny * nx) q)) in
        sym (parts_whole ny nx p long)
        ∙ joined_same ny _ _ (λ j r. part_row p (j * nx) nx nan (omega (arith, long, block_end j ny nx r))
        ∙ joined_same nx _ _ (λ i t. ap (λ (x : Float). x ∷ [])
        (get_d_part l (k * (ny * nx)) (ny * nx) (j * nx + i) nan (inner j i nx ny r t) ∙ ap (λ (n : ℕ). get_or l n nan) (nested_place nx ny i j k))))

-- ---- a face: one component of three
pub face_added : (r : Record) (f : Face) (a g : ℕ → ℕ → ℕ → Float) (s : List Float) → f.component < 3 → length s ≡ 3 * cells r →
    ((i j k : ℕ) → a i j k ≡ g i j k) →
    cond f.there (on (f.component * cells r) (r.nz * (r.ny * r.nx)) (add_box r.nx r.ny r.nz f.b a) s) s ≡ correct_face r f g s
unfolding correct_face components
face_added r f a g s small long same =
    ap (λ (t : List Float). cond f.there t s)
    (ap (λ (q : ℕ). on (c * q) N F s) count
    ∙ ap (on (c * N) N F) (sym (parts_whole 3 N s size))
    ∙ on_block_lem 3 c N (λ d. part s (d * N) N) after F small (λ d k. short d k) (box_keeps r.nx r.ny r.nz f.b a _ (short c small)) here there)
  where
    c : ℕ
    c = f.component

    N : ℕ
    N = r.nz * (r.ny * r.nx)

    F : List Float → List Float
    F = add_box r.nx r.ny r.nz f.b a

    count : cells r ≡ N
    count = cells_same r.nx r.ny r.nz

    size : length s ≡ 3 * N
    size = omega (arith, count)

    short : (d : ℕ) → d < 3 → length (part s (d * N) N) ≡ N
    short d k = part_length s (d * N) N (omega (arith, size, block_end d 3 N k))

    after : ℕ → List Float
    after d = cellwise r.nx r.ny r.nz (λ i j k. added (eqb d c && in_box f.b i j k) (cell_number r s d i j k) (g i j k))

    place : (d i j k : ℕ) → i < r.nx → j < r.ny → k < r.nz → get_or (part s (d * N) N) (cell_index r.nx r.ny i j k) nan ≡ cell_number r s d i j k
    place d i j k p q t =
        get_d_part s (d * N) N (cell_index r.nx r.ny i j k) nan (cell_in r.nx r.ny r.nz i j k p q t)
        ∙ ap (λ (m : ℕ). get_or s (d * m + cell_index r.nx r.ny i j k) nan) (sym count)

    here : after c ≡ F (part s (c * N) N)
    here =
        cellwise_same r.nx r.ny r.nz _ _ (λ i j k p q t.
        rw (eq-eqb c c refl, sym (same i j k)) (ap (λ (x : Float). added (in_box f.b i j k) x (a i j k)) (sym (place c i j k p q t))))
        ∙ sym (box_at r.nx r.ny r.nz f.b a (part s (c * N) N) (short c small))

    there : (d : ℕ) → d < 3 → (d ≡ c → ⊥) → after d ≡ part s (d * N) N
    there d k o =
        sym (cellwise_are nan r.nx r.ny r.nz _ (part s (d * N) N) (short d k) (λ i j m p q t. rw (ne_eqb d c o) (place d i j m p q t)))
