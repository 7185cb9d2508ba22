-- A box of cells set to one value, said of each cell: the nested loops over planes, rows and cells against `cellwise`. For any element type. Assumes nothing.
use Prim.Native.Nat.{ℕ, zero, suc, ◌+◌, ◌*◌, ◌≤◌, ◌<◌}
use native.Mathlib.Nat.{mul-one, mul_comm}
use native.Mathlib.Omega.{arith}
use mathlib.Core.Path.{◌≡◌, refl, sym, ap, ◌∙◌}
use mathlib.Core.Bool.{Bool, true, false, cond, ◌&&◌}
use mathlib.Core.List.{List, [], ◌∷◌, ◌++◌}
use lib.ListN.{length, drop, get_or, length-drop}
use lib.Seq.{take-suc, get_or-take, get_or-drop}
use Rattle.codec.specs.Lists.{part}
use Rattle.codec.proofs.Lists.{part_length, part_one}
use Rattle.cells.specs.Cells.{joined, row, cellwise, cell_index}
use Rattle.cells.specs.Reading.{block_end}
use Rattle.cells.specs.Inner.Blocks.{in_blocks, set_row, set_plane, set_box}
use Rattle.cells.specs.declared.IndexBox.{IndexBox}
use Rattle.cells.specs.Box.{in_box, within}
use Rattle.cells.proofs.Blocks.{joined_same}
use Rattle.cells.proofs.Sweeps.{Keeps, blocks_length, parts_whole}

-- ---- a part of a list, element by element
pub part_row : {A : Type 0} (l : List A) (at n : ℕ) (d : A) → at + n ≤ length l → part l at n ≡ row n (λ i. get_or l (at + i) d)
unfolding part joined
part_row l at zero d h = refl
part_row {A} l at (suc n) d h =
    take-suc (drop at l) n d (omega (arith, length-drop at l))
    ∙ ap (λ (t : List A). t ++ (get_or (drop at l) n d ∷ [])) (part_row l at n d (omega arith))
    ∙ ap (λ (x : A). row n (λ i. get_or l (at + i) d) ++ (x ∷ [])) (get_or-drop at l n d)

pub get_d_part : {A : Type 0} (l : List A) (at m i : ℕ) (d : A) → i < m → get_or (part l at m) i d ≡ get_or l (at + i) d
unfolding part
get_d_part l at m i d h = get_or-take m (drop at l) i d h ∙ get_or-drop at l i d

-- the cell's place, as the blocks nest and as the paper says it
pub nested_place : (nx ny i j k : ℕ) → k * (ny * nx) + (j * nx + i) ≡ cell_index nx ny i j k
nested_place nx ny i j k = let e : k * (ny * nx) ≡ k * (nx * ny) = ap (λ (q : ℕ). k * q) (mul_comm ny nx) in omega (arith, e)

pub inner : (j i nx ny : ℕ) → j < ny → i < nx → j * nx + i < ny * nx
inner j i nx ny p q = omega (arith, block_end j ny nx p)

-- ---- lengths
module _ {A : Type 0} (v : A) where
  pub row_keeps : (nx i0 i1 : ℕ) → Keeps nx (λ (_ : ℕ). set_row nx i0 i1 v)
  unfolding set_row
  row_keeps nx i0 i1 c l h = blocks_length nx 1 i0 _ (λ c l e. refl) i1 l (h ∙ sym (mul-one nx)) ∙ mul-one nx

  pub plane_keeps : (nx ny : ℕ) (b : IndexBox) → Keeps (ny * nx) (λ (_ : ℕ). set_plane nx ny b v)
  unfolding set_plane
  plane_keeps nx ny b c l h = blocks_length ny nx b.j0 _ (row_keeps nx b.i0 b.i1) b.j1 l h

  pub box_keeps : (nx ny nz : ℕ) (b : IndexBox) → Keeps (nz * (ny * nx)) (λ (_ : ℕ). set_box nx ny nz b v)
  unfolding set_box
  box_keeps nx ny nz b c l h = blocks_length nz (ny * nx) b.k0 _ (plane_keeps nx ny b) b.k1 l h

-- ---- each cell
module _ {A : Type 0} (v d : A) where
  row_at : (nx i0 i1 : ℕ) (l : List A) → length l ≡ nx → set_row nx i0 i1 v l ≡ row nx (λ i. cond (within i0 i1 i) v (get_or l i d))
  unfolding set_row in_blocks
  row_at nx i0 i1 l h = joined_same nx _ _ (λ i k. go i k (within i0 i1 i))
    where
      go : (i : ℕ) → i < nx → (t : Bool) → cond t (v ∷ []) (part l (i * 1) 1) ≡ (cond t v (get_or l i d)) ∷ []
      go i k true = refl
      go i k false = ap (λ (q : ℕ). part l q 1) (mul-one i) ∙ part_one l i d (omega arith)

  plane_at_lem : (nx ny : ℕ) (b : IndexBox) (l : List A) → length l ≡ ny * nx →
      set_plane nx ny b v l ≡ joined ny (λ j. row nx (λ i. cond (within b.j0 b.j1 j && within b.i0 b.i1 i) v (get_or l (j * nx + i) d)))
  unfolding set_plane in_blocks
  plane_at_lem nx ny b l h = joined_same ny _ _ (λ j k. go j k (within b.j0 b.j1 j))
    where
      go : (j : ℕ) → j < ny → (t : Bool) →
          cond t (set_row nx b.i0 b.i1 v (part l (j * nx) nx)) (part l (j * nx) nx) ≡ row nx (λ i. cond (t && within b.i0 b.i1 i) v (get_or l (j * nx + i) d))
      go j k true =
          row_at nx b.i0 b.i1 (part l (j * nx) nx) (part_length l (j * nx) nx (omega (arith, h, block_end j ny nx k)))
          ∙ joined_same nx _ _ (λ i q. ap (λ (x : A). (cond (within b.i0 b.i1 i) v x) ∷ []) (get_d_part l (j * nx) nx i d q))
      go j k false = part_row l (j * nx) nx d (omega (arith, h, block_end j ny nx k))

  pub box_at : (nx ny nz : ℕ) (b : IndexBox) (l : List A) → length l ≡ nz * (ny * nx) →
      set_box nx ny nz b v l ≡ cellwise nx ny nz (λ i j k. cond (in_box b i j k) v (get_or l (cell_index nx ny i j k) d))
  unfolding set_box in_blocks cellwise in_box
  box_at nx ny nz b l h = joined_same nz _ _ (λ k q. go k q (within b.k0 b.k1 k))
    where
      go : (k : ℕ) → k < nz → (t : Bool) →
          cond t (set_plane nx ny b v (part l (k * (ny * nx)) (ny * nx))) (part l (k * (ny * nx)) (ny * nx)) ≡
          joined ny (λ j. row nx (λ i. cond (t && within b.j0 b.j1 j && within b.i0 b.i1 i) v (get_or l (cell_index nx ny i j k) d)))
      go k q true =
          plane_at_lem nx ny b (part l (k * (ny * nx)) (ny * nx)) (part_length l (k * (ny * nx)) (ny * nx) (omega (arith, h, block_end k nz (ny * nx) q)))
          ∙ joined_same ny _ _ (λ j p. joined_same nx _ _ (λ i r. ap (λ (x : A). (cond (within b.j0 b.j1 j && within b.i0 b.i1 i) v x) ∷ [])
          (get_d_part l (k * (ny * nx)) (ny * nx) (j * nx + i) d (inner j i nx ny p r) ∙ ap (λ (n : ℕ). get_or l n d) (nested_place nx ny i j k))))
      go k q false =
          let p : List A = part l (k * (ny * nx)) (ny * nx) in
          let long = part_length l (k * (ny * nx)) (ny * nx) (omega (arith, h, block_end k nz (ny * nx) q)) in
          sym (parts_whole ny nx p long)
          ∙ joined_same ny _ _ (λ j r. part_row p (j * nx) nx d (omega (arith, long, block_end j ny nx r))
          ∙ joined_same nx _ _ (λ i t. ap (λ (x : A). x ∷ [])
          (get_d_part l (k * (ny * nx)) (ny * nx) (j * nx + i) d (inner j i nx ny r t) ∙ ap (λ (n : ℕ). get_or l n d) (nested_place nx ny i j k))))

-- ---- cell by cell
pub cellwise_same : {A : Type 0} (nx ny nz : ℕ) (f g : ℕ → ℕ → ℕ → A) → ((i j k : ℕ) → i < nx → j < ny → k < nz → f i j k ≡ g i j k) → cellwise nx ny nz f ≡ cellwise nx ny nz g
unfolding cellwise
cellwise_same {A} nx ny nz f g h =
    joined_same nz _ _ (λ k r. joined_same ny _ _ (λ j q. joined_same nx _ _ (λ i p. ap (λ (x : A). x ∷ []) (h i j k p q r))))

-- a cell's place is one of the grid's
pub cell_in : (nx ny nz i j k : ℕ) → i < nx → j < ny → k < nz → cell_index nx ny i j k < nz * (ny * nx)
cell_in nx ny nz i j k p q r =
    let row_in = block_end j ny nx q in
    let plane_in = block_end k nz (ny * nx) r in
    let e : k * (ny * nx) ≡ k * (nx * ny) = ap (λ (n : ℕ). k * n) (mul_comm ny nx) in
    omega (arith, row_in, plane_in, e)

pub cells_same : (nx ny nz : ℕ) → nx * ny * nz ≡ nz * (ny * nx)
cells_same nx ny nz = mul_comm (nx * ny) nz ∙ ap (λ (n : ℕ). nz * n) (mul_comm nx ny)
