-- A save judged and read (document 01, "Rewind, record by record"). Definitions only.
use Rattle.std.specs.Prelude.{ℕ, ◌*◌, Bool, true, cond, ◌&&◌, List, [], ◌∷◌, leb, eqb, length, drop, replicate}
use Rattle.codec.specs.Lists.{part}
use Rattle.codec.specs.Bytes.{unle, floats_of, all_fine, ids_of}
use Rattle.dispersion.specs.Material.{vacuum_material}
use Rattle.grid.specs.declared.Record.{Record}
use Rattle.grid.specs.declared.stores.Lengths.{Lengths}
use Rattle.grid.specs.Fault.{all_below, fault_of}
use Rattle.grid.specs.Stores.{Stores, Outcome, store_lengths, lengths_of, same_lengths, lent_fault, settle}
use Rattle.heads.specs.Numbers.{old_length, gh_length, gh_fine, gh_of, ml_length, ml_fine}
use Rattle.heads.specs.Payloads.{head_by, count_of, entry_at, record_of}
use Rattle.format.specs.Records.{Expected, expected, records_fault, payload_from}
use Rattle.format.specs.Save.{mark_gh, mark_ml, mark_ci, mark_cm, mark_fe, mark_fh, mark_le, mark_lh, mark_lt, mark_pp, mark_ax}

-- ---- a save from before document 02's S-7: the length field of its first record, GH, says 73
unfoldable pub is_old : List ℕ → Bool
is_old b = leb 6 (length b) && eqb (unle (part b 2 4)) old_length

abbrev pub size_by : (old : Bool) → ℕ
size_by old = cond old old_length gh_length

-- the bytes of GH's payload: 73 in such a save, 74 in any other
abbrev pub head_size : List ℕ → ℕ
head_size b = size_by (is_old b)

-- ---- GH's numbers: its payload stands behind the six bytes of its frame. An old one says the constants 0
abbrev pub save_head : List ℕ → List ℕ
save_head b = head_by (is_old b) (drop 6 b)

-- the record that GH alone says: each material vacuum
unfoldable pub bare : List ℕ → Record
bare g = gh_of g (replicate 16 vacuum_material)

-- a field outside its range, another NaN, bytes not zero that must be, or what 1 to 3 turn down in GH, whatever ML will say
unfoldable pub head_good : List ℕ → Bool
head_good g = gh_fine g && eqb (fault_of (bare g)) 0

-- ---- ML: the same of each material, and of the whole record; p are the bytes from its payload on
unfoldable pub list_good : List ℕ → List ℕ → Bool
list_good g p = all_below (λ i. ml_fine (entry_at p i)) (count_of g) && eqb (fault_of (record_of g p)) 0

-- ---- the eleven records to come: a store's length is the one that GH's sizes give it, and ids may be any u32
abbrev pub head_record : (old : Bool) → Expected
head_record old = expected mark_gh (size_by old) (λ p. head_good (head_by old p))

abbrev pub list_record : List ℕ → Expected
list_record g = expected mark_ml (ml_length * count_of g) (list_good g)

abbrev pub ids_record : ℕ → Expected
ids_record n = expected mark_ci (4 * n) (λ _. true)

abbrev pub floats_record : ℕ → ℕ → Expected
floats_record mark n = expected mark (8 * n) (all_fine n)

abbrev pub store_records : Lengths → List Expected
store_records n =
    ids_record n.ids
    ∷ floats_record mark_cm n.media
    ∷ floats_record mark_fe n.electric
    ∷ floats_record mark_fh n.magnetic
    ∷ floats_record mark_le n.psi_e
    ∷ floats_record mark_lh n.psi_h
    ∷ floats_record mark_lt n.tables
    ∷ floats_record mark_pp n.poles
    ∷ floats_record mark_ax n.aux
    ∷ []

unfoldable pub table : (old : Bool) → List ℕ → Lengths → List Expected
table old g n = head_record old ∷ list_record g ∷ store_records n

unfoldable pub table_by : (old : Bool) → (head : List ℕ) → List Expected
table_by old g = table old g (store_lengths (bare g))

-- those that bytes begin to say
abbrev pub table_of : List ℕ → List Expected
table_of b = table_by (is_old b) (save_head b)

-- ---- the first fault of bytes by themselves: 13 to 16
unfoldable pub bytes_fault : List ℕ → ℕ
bytes_fault b = records_fault (table_of b) b

-- ---- the study that bytes say; those from the payload of record i on
abbrev pub payload_of : List ℕ → ℕ → List ℕ
payload_of b i = payload_from (table_of b) i b

unfoldable pub read_record : List ℕ → Record
read_record b = record_of (save_head b) (payload_of b 1)

unfoldable pub read_stores : List ℕ → Stores
read_stores b =
    let n = store_lengths (bare (save_head b)) in
    record {
      ids = ids_of n.ids (payload_of b 2);
      media = floats_of n.media (payload_of b 3);
      electric = floats_of n.electric (payload_of b 4);
      magnetic = floats_of n.magnetic (payload_of b 5);
      psi_e = floats_of n.psi_e (payload_of b 6);
      psi_h = floats_of n.psi_h (payload_of b 7);
      tables = floats_of n.tables (payload_of b 8);
      poles = floats_of n.poles (payload_of b 9);
      aux = floats_of n.aux (payload_of b 10);
    }

-- ---- the call: 13 to 16, then 4 unless the lent stores have the lengths of the study that the bytes say
unfoldable pub rewind_fault : List ℕ → Lengths → ℕ
rewind_fault b l = lent_fault (bytes_fault b) (same_lengths l (store_lengths (read_record b)))

-- handed a standing record, which is not judged and is given back when the bytes are refused
unfoldable pub rewind_call : (standing : Record) → Stores → List ℕ → Outcome Stores
rewind_call standing s b = settle (rewind_fault b (lengths_of s)) standing s (read_record b) (read_stores b)
