-- A record of a save: a mark of two bytes, the payload's length in four, and the payload (document 01, "The save").
use Rattle.std.specs.Prelude.{ℕ, ◌+◌, List, [], ◌∷◌, cond, not, ltb, eqb, length}
use Rattle.refusals.specs.declared.Refusal.TheVariants.{Short, BadMark, BadRecord}
use Rattle.refusals.specs.Refusals.{number}
use Rattle.codec.specs.Lists.{part}
use Rattle.codec.specs.Bytes.{unle, enc}

-- the six bytes before a payload of n bytes
abbrev pub frame_bytes : ℕ → ℕ → List ℕ
frame_bytes m n = enc (2 ∷ 4 ∷ []) (m ∷ n ∷ [])

-- the refusals that a record's first bytes can earn
abbrev pub short : ℕ
short = number Short

abbrev pub bad_mark : ℕ
bad_mark = number BadMark

abbrev pub bad_record : ℕ
bad_record = number BadRecord

-- Document 01, "Rewind, record by record": the first fault of bytes that are to begin with a record of mark m and a payload of n bytes, or 0.
-- Fewer than six bytes; another mark; another length; a payload cut off.
unfoldable pub frame_fault : ℕ → ℕ → List ℕ → ℕ
frame_fault m n l =
    cond (ltb (length l) 6) short
    (cond (not (eqb (unle (part l 0 2)) m)) bad_mark
    (cond (not (eqb (unle (part l 2 4)) n)) bad_record
    (cond (ltb (length l) (6 + n)) short 0)))
