-- Lists in store order: a number for each cell (document 01: "Cell (i, j, k) sits at i + j·nx + k·nx·ny"), and several such lists one after another.
-- Definitions only; that each place holds what it says is proved in Reading.antt.
use Rattle.std.specs.Prelude.{ℕ, zero, suc, ◌+◌, ◌*◌, List, [], ◌∷◌, ◌++◌}

-- g 0, g 1, .. g (n - 1), one after another
unfoldable pub joined : {A : Type 0} → ℕ → (ℕ → List A) → List A
joined zero g = []
joined (suc n) g = joined n g ++ g n

-- f of the numbers below n
abbrev pub row : {A : Type 0} → ℕ → (ℕ → A) → List A
row n f = joined n (λ i. f i ∷ [])

-- f of each cell, i fastest and k slowest
unfoldable pub cellwise : {A : Type 0} → (nx ny nz : ℕ) → (ℕ → ℕ → ℕ → A) → List A
cellwise nx ny nz f = joined nz (λ k. joined ny (λ j. row nx (λ i. f i j k)))

-- where cell (i, j, k) sits
abbrev pub cell_index : (nx ny i j k : ℕ) → ℕ
cell_index nx ny i j k = i + j * nx + k * (nx * ny)

-- n numbers a cell: of N = nx·ny·nz cells, number c of cell (i, j, k) stands at c N + cell_index (`components_at`, Reading.antt)
unfoldable pub components : {A : Type 0} → (n nx ny nz : ℕ) → (ℕ → ℕ → ℕ → ℕ → A) → List A
components n nx ny nz f = joined n (λ c. cellwise nx ny nz (f c))
