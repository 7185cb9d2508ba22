-- What the machine needs of saves and rewinds, from the laws of the crate saves. Assumes nothing.
use Prim.Native.Nat.{ℕ}
use mathlib.Core.Path.{◌≡◌, ap}
use lib.Dec.{leb}
use lib.ListN.{length}
use Rattle.grid.specs.declared.Record.{Record}
use Rattle.grid.specs.declared.stores.Lengths.{Lengths}
use Rattle.grid.specs.Canon.{canon}
use Rattle.grid.specs.Fault.{fault_of, first}
use Rattle.grid.specs.Stores.{Stores, store_lengths, lengths_of, same_lengths, or_else, lent_fault, fault_lent, fault_with}
use Rattle.grid.proofs.Canonical.{canon_fault}
use Rattle.grid.proofs.Settled.{with_none}
use Rattle.grid.proofs.Tests.{or_none}
use Rattle.block.specs.Inner.Held.{Held}
use Rattle.format.specs.Save.{save_length, save_bytes, save_fault, no_room}
use Rattle.format.specs.Rewind.{read_record, read_stores, rewind_fault}
use Rattle.format.specs.InMemory.{StoresHeld}
use Rattle.format.specs.Inner.Savable.{Savable}
use Rattle.format.proofs.Written.{save_long}
use Rattle.format.proofs.Back.{save_accepted, record_again, stores_again}
use Rattle.format.proofs.Same.{canon_saves}

-- what means nothing is not judged
pub fault_canon : (r : Record) (l : Lengths) (n : ℕ) → save_fault (canon r) l n ≡ save_fault r l n
unfolding save_fault fault_lent store_lengths save_length canon
fault_canon r l n = ap (λ (f : ℕ). or_else (lent_fault f (same_lengths l (store_lengths r))) (first (leb (save_length r) n) no_room 0)) (canon_fault r)

-- an accepted save of what memory holds
pub record Saved (r : Record) (s : Stores) (room : ℕ) : Type 0 where
  pub held : Held r
  pub fits : StoresHeld s
  pub fine : save_fault r (lengths_of s) room ≡ 0

module _ (r : Record) (s : Stores) (n : ℕ) (k : Saved r s n) where
  judged : fault_with r (lengths_of s) ≡ 0
  unfolding save_fault
  judged = (or_none (fault_with r (lengths_of s)) _ k.fine).0

  pub savable : Savable r s
  unfolding fault_lent
  savable = record { ok = (or_none (fault_of r) _ judged).0; held = k.held; fit = (with_none r (lengths_of s) judged).1; kept = k.fits }

  -- nor is it written
  pub bytes_canon : save_bytes (canon r) s ≡ save_bytes r s
  bytes_canon = canon_saves r s savable.ok savable.held savable.fit savable.kept

  pub long : length (save_bytes r s) ≡ save_length r
  long = save_long r s savable.fit

  -- a save read gives the study written, and is accepted into stores of its lengths
  pub restored : (read_record (save_bytes r s) ≡ canon r) × (read_stores (save_bytes r s) ≡ s)
  restored = (record_again r s savable.ok savable.held savable.fit savable.kept, stores_again r s savable.ok savable.held savable.fit savable.kept)

  pub reread : rewind_fault (save_bytes r s) (lengths_of s) ≡ 0
  reread = save_accepted r s savable.ok savable.held savable.fit savable.kept
