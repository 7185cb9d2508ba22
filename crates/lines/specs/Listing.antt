-- What the listing program prints for a save's bytes, in ASCII (document 01, "Sample studies", the last paragraph). Definitions only.
use Rattle.std.specs.Prelude.{ℕ, zero, suc, ◌+◌, ◌/◌, ◌%◌, Bool, cond, ◌&&◌, List, [], ◌∷◌, ◌++◌, ltb, leb, eqb, length}
use Rattle.cells.specs.Cells.{joined, cell_index}
use Rattle.grid.specs.declared.Record.{Record}
use Rattle.grid.specs.Fault.{first}
use Rattle.grid.specs.Stores.{Stores, cells, bad_store, number_at, lent_fault}
use Rattle.codec.specs.Bytes.{bits}
use Rattle.format.specs.Rewind.{bytes_fault, read_record, read_stores}

-- ---- numbers
-- "Hex digits are upper case": 0 to 9, then A to F
abbrev pub glyph : ℕ → ℕ
glyph d = cond (ltb d 10) (48 + d) (55 + d)

-- the last w hex digits of n, the highest first
unfoldable pub hex_digits : (w : ℕ) → ℕ → List ℕ
hex_digits zero n = []
hex_digits (suc w) n = hex_digits w (n / 16) ++ (glyph (n % 16) ∷ [])

-- "16 a number"
abbrev pub hex : ℕ → List ℕ
hex n = hex_digits 16 n

-- n in decimal, with no zero in front of another digit; each turn divides by ten, so that one more than n are enough
unfoldable pub decimal_in : (turns : ℕ) → ℕ → List ℕ
decimal_in zero n = []
decimal_in (suc t) n = cond (ltb n 10) (glyph n ∷ []) (decimal_in t (n / 10) ++ (glyph (n % 10) ∷ []))

unfoldable pub decimal : ℕ → List ℕ
decimal n = decimal_in (suc n) n

-- ---- lines
abbrev pub blank : ℕ
blank = 32

abbrev pub newline : ℕ
newline = 10

abbrev pub ended : (end : ℕ) → List ℕ → List ℕ
ended end word = word ++ (end ∷ [])

-- words with a blank between each two; "a newline ends each line"
unfoldable pub line : List (List ℕ) → List ℕ
line [] = newline ∷ []
line (w ∷ []) = ended newline w
line (w ∷ v ∷ vs) = ended blank w ++ line (v ∷ vs)

abbrev pub word_study : List ℕ
word_study = 115 ∷ 116 ∷ 117 ∷ 100 ∷ 121 ∷ []

abbrev pub word_steps : List ℕ
word_steps = 115 ∷ 116 ∷ 101 ∷ 112 ∷ 115 ∷ []

abbrev pub word_materials : List ℕ
word_materials = 109 ∷ 97 ∷ 116 ∷ 101 ∷ 114 ∷ 105 ∷ 97 ∷ 108 ∷ 115 ∷ []

abbrev pub word_refused : List ℕ
word_refused = 114 ∷ 101 ∷ 102 ∷ 117 ∷ 115 ∷ 101 ∷ 100 ∷ []

-- "sizes, steps, materials"
unfoldable pub head_line : (nx ny nz steps materials : ℕ) → List ℕ
head_line nx ny nz steps materials =
    line (word_study ∷ decimal nx ∷ decimal ny ∷ decimal nz ∷ word_steps ∷ decimal steps ∷ word_materials ∷ decimal materials ∷ [])

-- "i, j, k and the bits of ex ey ez hx hy hz"; e and h give the bits of a component
unfoldable pub cell_line : (i j k : ℕ) → (e h : ℕ → ℕ) → List ℕ
cell_line i j k e h =
    line (decimal i ∷ decimal j ∷ decimal k ∷ hex (e 0) ∷ hex (e 1) ∷ hex (e 2) ∷ hex (h 0) ∷ hex (h 1) ∷ hex (h 2) ∷ [])

-- "each cell in store order"; e and h give the bits of a component at a place
unfoldable pub cell_lines : (nx ny nz : ℕ) → (e h : ℕ → ℕ → ℕ) → List ℕ
cell_lines nx ny nz e h =
    joined nz (λ k. joined ny (λ j. joined nx (λ i.
    let m = cell_index nx ny i j k in cell_line i j k (λ c. e c m) (λ c. h c m))))

unfoldable pub study_lines : Record → Stores → List ℕ
study_lines r s =
    head_line r.nx r.ny r.nz r.clock.steps r.material_count
    ++ cell_lines r.nx r.ny r.nz (λ c m. bits (number_at s.electric (cells r) c m)) (λ c m. bits (number_at s.magnetic (cells r) c m))

-- "prints `refused 4`, another fault its own number in that form"
unfoldable pub refused_line : ℕ → List ℕ
refused_line f = line (word_refused ∷ decimal f ∷ [])

-- ---- the whole
-- "more than 64 cells or one slot"
unfoldable pub fits_listing : Record → Bool
fits_listing r = leb (cells r) 64 && leb r.pole_slots 1

-- "more than 24,576 bytes, judged first": 4; then the save's own faults, 13 to 16; "or more than 64 cells or one slot, judged where 4 stands"
unfoldable pub list_fault : List ℕ → ℕ
list_fault b = first (leb (length b) 24576) bad_store (lent_fault (bytes_fault b) (fits_listing (read_record b)))

unfoldable pub listing : List ℕ → List ℕ
listing b = cond (eqb (list_fault b) 0) (study_lines (read_record b) (read_stores b)) (refused_line (list_fault b))
