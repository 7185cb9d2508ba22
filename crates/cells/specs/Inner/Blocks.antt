-- What the loops over cells cite: a part of a store that is changed, block by block. Definitions only.
use Rattle.std.specs.Prelude.{ℕ, ◌*◌, cond, List, [], ◌∷◌}
use Rattle.codec.specs.Lists.{put, part}
use Rattle.cells.specs.Cells.{joined}
use Rattle.cells.specs.declared.IndexBox.{IndexBox}
use Rattle.cells.specs.Box.{within}

-- F done to the m elements from `at` on
unfoldable pub on : {A : Type 0} → ℕ → ℕ → (List A → List A) → List A → List A
on at m F s = put s at (F (part s at m))

-- l as n blocks of m, with F c done to each block c that lies within a and e
unfoldable pub in_blocks : {A : Type 0} → (n m a e : ℕ) → (ℕ → List A → List A) → List A → List A
in_blocks n m a e F l = joined n (λ c. cond (within a e c) (F c (part l (c * m) m)) (part l (c * m) m))

-- v in each place of a row, a plane and a grid that lies in the box
unfoldable pub set_row : {A : Type 0} → (nx i0 i1 : ℕ) → A → List A → List A
set_row nx i0 i1 v = in_blocks nx 1 i0 i1 (λ _ _. v ∷ [])

unfoldable pub set_plane : {A : Type 0} → (nx ny : ℕ) → IndexBox → A → List A → List A
set_plane nx ny b v = in_blocks ny nx b.j0 b.j1 (λ _. set_row nx b.i0 b.i1 v)

unfoldable pub set_box : {A : Type 0} → (nx ny nz : ℕ) → IndexBox → A → List A → List A
set_box nx ny nz b v = in_blocks nz (ny * nx) b.k0 b.k1 (λ _. set_plane nx ny b v)
