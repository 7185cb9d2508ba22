-- The lines of a save's cells as code writes them, each cell by its place among the save's bytes. Definitions only.
use Rattle.std.specs.Prelude.{ℕ, ◌+◌, ◌*◌, List}
use Rattle.cells.specs.Cells.{joined}
use Rattle.lines.specs.declared.fields.Saved.{Saved}
use Rattle.lines.specs.Listing.{cell_line}
use Rattle.lines.specs.Inner.Places.{bits_at}

abbrev pub cell_text : Saved → (i j k m : ℕ) → List ℕ
cell_text s i j k m = cell_line i j k (λ c. bits_at s.bytes.now s.at.electric s.at.cells c m) (λ c. bits_at s.bytes.now s.at.magnetic s.at.cells c m)

-- a row along x, whose first cell is at place m
unfoldable pub row_text : Saved → (j k m : ℕ) → List ℕ
row_text s j k m = joined s.nx (λ i. cell_text s i j k (m + i))

-- a plane across z, whose first cell is at place m
unfoldable pub plane_text : Saved → (k m : ℕ) → List ℕ
plane_text s k m = joined s.ny (λ j. row_text s j k (m + s.nx * j))

unfoldable pub grid_text : Saved → List ℕ
grid_text s = joined s.nz (λ k. plane_text s k (s.nx * s.ny * k))
