-- The same records as code reads them: by places among the bytes. Definitions only.
use Rattle.std.specs.Prelude.{ℕ, ◌+◌, ◌*◌, Bool, List, drop}
use Rattle.codec.specs.Bytes.{floats_of, ids_of}
use Rattle.grid.specs.declared.stores.Lengths.{Lengths}
use Rattle.grid.specs.Stores.{Stores}
use Rattle.heads.specs.Numbers.{ml_length}
use Rattle.format.specs.Rewind.{size_by}

-- where ML's record begins, behind GH's, and its materials; and where the records of the stores begin, behind it: as they are read, with either GH
abbrev pub list_from : (old : Bool) → ℕ
list_from old = 6 + size_by old

abbrev pub entries_from : (old : Bool) → ℕ
entries_from old = list_from old + 6

abbrev pub stores_from : (old : Bool) → (materials : ℕ) → ℕ
stores_from old m = entries_from old + ml_length * m

-- the nine stores of these lengths, in the records that begin at `at`
unfoldable pub stores_at : Lengths → List ℕ → ℕ → Stores
stores_at n b at = record {
  ids = ids_of n.ids (drop (at + 6) b);
  media = floats_of n.media (drop (at + (12 + 4 * n.ids)) b);
  electric = floats_of n.electric (drop (at + (18 + 4 * n.ids + 8 * n.media)) b);
  magnetic = floats_of n.magnetic (drop (at + (24 + 4 * n.ids + 8 * n.media + 8 * n.electric)) b);
  psi_e = floats_of n.psi_e (drop (at + (30 + 4 * n.ids + 8 * n.media + 8 * n.electric + 8 * n.magnetic)) b);
  psi_h = floats_of n.psi_h (drop (at + (36 + 4 * n.ids + 8 * n.media + 8 * n.electric + 8 * n.magnetic + 8 * n.psi_e)) b);
  tables = floats_of n.tables (drop (at + (42 + 4 * n.ids + 8 * n.media + 8 * n.electric + 8 * n.magnetic + 8 * n.psi_e + 8 * n.psi_h)) b);
  poles = floats_of n.poles (drop (at + (48 + 4 * n.ids + 8 * n.media + 8 * n.electric + 8 * n.magnetic + 8 * n.psi_e + 8 * n.psi_h + 8 * n.tables)) b);
  aux = floats_of n.aux (drop (at + (54 + 4 * n.ids + 8 * n.media + 8 * n.electric + 8 * n.magnetic + 8 * n.psi_e + 8 * n.psi_h + 8 * n.tables + 8 * n.poles)) b);
}
