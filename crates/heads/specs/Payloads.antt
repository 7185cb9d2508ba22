-- The payloads of GH and ML as bytes, written and read. A save has each in a record of its own (format/specs), a caller's block one behind the other
-- (block/specs). Definitions only.
use Rattle.std.specs.Prelude.{ℕ, ◌*◌, Bool, cond, List, [], ◌∷◌, ◌++◌, ltb, get_or, drop}
use Rattle.codec.specs.Bytes.{enc, nums}
use Rattle.dispersion.specs.declared.DispersiveMaterial.{DispersiveMaterial}
use Rattle.dispersion.specs.Material.{vacuum_material}
use Rattle.cells.specs.Cells.{row}
use Rattle.grid.specs.declared.Record.{Record}
use Rattle.heads.specs.Numbers.{old_widths, gh_widths, gh_nums, gh_of, ml_widths, ml_length, ml_nums, ml_of}

-- ---- written
abbrev pub head_bytes : Record → List ℕ
head_bytes r = enc gh_widths (gh_nums r)

abbrev pub material_bytes : DispersiveMaterial → List ℕ
material_bytes m = enc ml_widths (ml_nums m)

-- ---- read: GH's twenty-seven numbers, of which the thirteenth is the material count M
abbrev pub head_of : List ℕ → List ℕ
head_of b = nums gh_widths b

-- of a GH that ends with the steps the last is 0, the Rust's constants
abbrev pub old_head_of : List ℕ → List ℕ
old_head_of b = nums old_widths b ++ (0 ∷ [])

abbrev pub head_by : (old : Bool) → List ℕ → List ℕ
head_by old b = cond old (old_head_of b) (head_of b)

abbrev pub count_of : List ℕ → ℕ
count_of g = get_or g 12 0

-- an entry is a material's bytes: its twenty numbers; those of entry i, where b are the bytes from the first entry on
abbrev pub entry_of : List ℕ → List ℕ
entry_of b = nums ml_widths b

abbrev pub entry_at : List ℕ → ℕ → List ℕ
entry_at b i = entry_of (drop (ml_length * i) b)

-- the sixteen materials of a record: the counted ones are read, each other one is vacuum
abbrev pub entry_material : (count : ℕ) → List ℕ → ℕ → DispersiveMaterial
entry_material count b i = cond (ltb i count) (ml_of (entry_at b i)) vacuum_material

unfoldable pub materials_of : (count : ℕ) → List ℕ → List DispersiveMaterial
materials_of count b = row 16 (entry_material count b)

-- the record that GH's numbers and the entries say
abbrev pub record_of : (head entries : List ℕ) → Record
record_of g b = gh_of g (materials_of (count_of g) b)
