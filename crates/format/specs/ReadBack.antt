-- What bytes without fault say, demand 2's "an accepted save is what its study writes" as document 02's S-7 has it for the two lengths of GH. The statement
-- alone: it is proved of all bytes (`read_back`, format/proofs/Round.antt).
use Rattle.std.specs.Prelude.{ℕ, ◌+◌, ◌<◌, ◌≡◌, true, false, List, ◌∷◌, ◌++◌, length, take, drop}
use Rattle.codec.specs.Lists.{part}
use Rattle.codec.specs.Bytes.{le}
use Rattle.codec.specs.Frame.{short}
use Rattle.heads.specs.Numbers.{old_length, gh_length}
use Rattle.grid.specs.Canon.{canon}
use Rattle.grid.specs.Fault.{fault_of}
use Rattle.grid.specs.Stores.{lengths_of, store_lengths}
use Rattle.format.specs.Records.{trailing}
use Rattle.format.specs.Save.{save_bytes}
use Rattle.format.specs.Rewind.{is_old, bytes_fault, read_record, read_stores}

-- an old save with the new length in GH's length field and a 0, the constants, put in behind GH
abbrev pub widened : List ℕ → List ℕ
widened b = take 2 b ++ le 4 gh_length ++ part b 6 old_length ++ (0 ∷ drop (6 + old_length) b)

pub record ReadBack (b : List ℕ) : Type 0 where
  -- a study: no fault of its record, stores of its lengths, nothing in it that means nothing
  pub fine : fault_of (read_record b) ≡ 0
  pub long : lengths_of (read_stores b) ≡ store_lengths (read_record b)
  pub canonical : canon (read_record b) ≡ read_record b
  -- "An accepted save of the new length is what its study writes"
  pub again : is_old b ≡ false → save_bytes (read_record b) (read_stores b) ≡ b
  -- "a GH of 73 is still read, as 0, and the next save writes 74"
  pub zero : is_old b ≡ true → (read_record b).constants ≡ 0
  pub next : is_old b ≡ true → save_bytes (read_record b) (read_stores b) ≡ widened b
  -- "for an old one only the study is fixed": it is the one that the widened bytes say, which have no fault
  pub same : is_old b ≡ true → (bytes_fault (widened b) ≡ 0) × (read_record (widened b) ≡ read_record b) × (read_stores (widened b) ≡ read_stores b)
  -- "A save cut short anywhere is refused as Short", and one with more behind it as Trailing
  pub cut : (n : ℕ) → n < length b → bytes_fault (take n b) ≡ short
  pub more : (x : ℕ) (l : List ℕ) → bytes_fault (b ++ (x ∷ l)) ≡ trailing
