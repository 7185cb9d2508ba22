-- A box of cells by half-open ranges of indices. Definitions only.
use Rattle.std.specs.Prelude.{ℕ, ◌+◌, Bool, cond, ◌&&◌, List, [], ◌∷◌, leb, ltb}
use Rattle.cells.specs.declared.IndexBox.{IndexBox}
use Rattle.cells.specs.Cells.{cellwise}

-- a ≤ c < e
abbrev pub within : ℕ → ℕ → ℕ → Bool
within a e c = leb a c && ltb c e

-- An upper end past the grid takes in no cell that is not there, and an empty or backward range none at all.
unfoldable pub in_box : IndexBox → (i j k : ℕ) → Bool
in_box b i j k = within b.k0 b.k1 k && within b.j0 b.j1 j && within b.i0 b.i1 i

-- ---- how many cells of a grid are in a box (document 02, S-5)
-- how many of the answers are true
unfoldable pub trues : List Bool → ℕ
trues [] = 0
trues (t ∷ ts) = cond t 1 0 + trues ts

-- that they are as many as the product of the cut ranges is proved in Counted.antt
unfoldable pub box_cells : (nx ny nz : ℕ) → IndexBox → ℕ
box_cells nx ny nz b = trues (cellwise nx ny nz (in_box b))
