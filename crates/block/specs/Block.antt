-- The study record as one block of bytes that a caller holds: the payload of GH, then sixteen entries, each counted one as in ML (document 01, "The save"),
-- every other one zero bytes. Definitions only.
use Rattle.std.specs.Prelude.{ℕ, ◌+◌, ◌*◌, Bool, cond, ◌&&◌, List, [], ◌∷◌, ◌++◌, ltb, eqb, length, get_or, drop, replicate}
use Rattle.codec.specs.Lists.{put, part, every}
use Rattle.codec.specs.Bytes.{enc, bits}
use Rattle.cells.specs.Cells.{joined}
use Rattle.grid.specs.declared.Clock.{Clock}
use Rattle.grid.specs.declared.Record.{Record}
use Rattle.grid.specs.Fault.{beyond, all_below}
use Rattle.heads.specs.Numbers.{gh_length, gh_shaped, ml_length, ml_shaped}
use Rattle.heads.specs.Payloads.{head_bytes, material_bytes, head_of, count_of, entry_at, record_of}

abbrev pub block_length : ℕ
block_length = gh_length + 16 * ml_length

-- ---- written
unfoldable pub entry_bytes : Record → ℕ → List ℕ
entry_bytes r i = cond (ltb i r.material_count) (material_bytes (get_or r.materials i beyond)) (replicate ml_length 0)

unfoldable pub block_of : Record → List ℕ
block_of r = head_bytes r ++ joined 16 (entry_bytes r)

-- the time and the steps alone: twelve bytes of GH; one byte follows them, the constants
abbrev pub clock_widths : List ℕ
clock_widths = 8 ∷ 4 ∷ []

abbrev pub clock_place : ℕ
clock_place = 61

unfoldable pub clock_bytes : Clock → List ℕ
clock_bytes c = enc clock_widths (bits c.time ∷ c.steps ∷ [])

unfoldable pub clock_put : Clock → List ℕ → List ℕ
clock_put c b = put b clock_place (clock_bytes c)

-- ---- read: the bytes from the first entry on
abbrev pub entries : List ℕ → List ℕ
entries b = drop gh_length b

-- the material count is what GH says, whatever it is
abbrev pub counted : List ℕ → ℕ → Bool
counted b i = ltb i (count_of (head_of b))

abbrev pub all_zero : List ℕ → Bool
all_zero l = every (λ n. eqb n 0) l

unfoldable pub entry_fine : List ℕ → ℕ → Bool
entry_fine b i = cond (counted b i) (ml_shaped (entry_at (entries b) i)) (all_zero (part (entries b) (ml_length * i) ml_length))

-- whether these bytes are a record's. A block is an argument and no save: any NaN in it is read as the NaN
unfoldable pub block_fine : List ℕ → Bool
block_fine b = eqb (length b) block_length && gh_shaped (head_of b) && all_below (entry_fine b) 16

unfoldable pub block_record : List ℕ → Record
block_record b = record_of (head_of b) (entries b)
