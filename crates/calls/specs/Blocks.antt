-- What a C function comes to: the call on the record that the caller's block holds. Definitions only.
use Rattle.std.specs.Prelude.{ℕ, ◌+◌, Bool, true, false, cond, List, eqb, length, get_or, set, Float}
use Rattle.root.specs.declared.Spacings.{Spacings}
use Rattle.dispersion.specs.declared.DispersiveMaterial.{DispersiveMaterial}
use Rattle.grid.specs.declared.Clock.{Clock}
use Rattle.grid.specs.declared.Record.{Record}
use Rattle.grid.specs.Fault.{bad_study, first, fault_of}
use Rattle.grid.specs.Stores.{Stores, Outcome, outcome, settle, or_else, bad_store, lengths_of, fault_with}
use Rattle.opening.specs.Opening.{open_record, open_stores}
use Rattle.opening.specs.Layer.{Layer}
use Rattle.cpml.specs.Absorber.{Absorbed}
use Rattle.materials.specs.declared.Put.{Put}
use Rattle.materials.specs.declared.Put.TheVariants.{Numbers, Library}
use Rattle.materials.specs.Materials.{add_fault, added, Placed, Filled}
use Rattle.heads.specs.Numbers.{ml_length, ml_shaped, ml_of}
use Rattle.heads.specs.Payloads.{entry_of}
use Rattle.block.specs.Block.{block_length, block_fine, block_record, block_of, clock_put}
use Rattle.format.specs.Rewind.{read_record, read_stores, rewind_fault}

-- the refusal, the block, and the rest: the stores that were lent, further answers
pub record Sent (A : Type 0) : Type 0 where
  pub refusal : ℕ
  pub block : List ℕ
  pub rest : A

abbrev pub sent : {A : Type 0} → ℕ → List ℕ → A → Sent A
sent n b s = record { refusal = n; block = b; rest = s }

-- the block is written where the call was accepted
unfoldable pub block_after : (refusal : ℕ) → Record → List ℕ → List ℕ
block_after n r b = cond (eqb n 0) (block_of r) b

abbrev pub passed : {A : Type 0} → Outcome A → List ℕ → Sent A
passed o b = sent o.refusal (block_after o.refusal o.study b) o.rest

-- a block that is no record is refused as BadStudy, and the rest is then `kept`
unfoldable pub on_block : {A : Type 0} → (Record → Outcome A) → List ℕ → (kept : A) → Sent A
on_block f b kept = cond (block_fine b) (passed (f (block_record b)) b) (sent bad_study b kept)

-- a call that moves the clock and nothing else of the record writes the clock's bytes alone
unfoldable pub clock_after : (refusal : ℕ) → Clock → List ℕ → List ℕ
clock_after n c b = cond (eqb n 0) (clock_put c b) b

abbrev pub clock_passed : {A : Type 0} → Outcome A → List ℕ → Sent A
clock_passed o b = sent o.refusal (clock_after o.refusal o.study.clock b) o.rest

unfoldable pub clock_on_block : {A : Type 0} → (Record → Outcome A) → List ℕ → (kept : A) → Sent A
clock_on_block f b kept = cond (block_fine b) (clock_passed (f (block_record b)) b) (sent bad_study b kept)

-- a call that is lent the block to read alone: the refusal, and the rest
pub record Readout (A : Type 0) : Type 0 where
  pub refusal : ℕ
  pub rest : A

abbrev pub readout : {A : Type 0} → ℕ → A → Readout A
readout n s = record { refusal = n; rest = s }

unfoldable pub read_block : {A : Type 0} → (Record → Outcome A) → List ℕ → (kept : A) → Readout A
read_block f b kept = cond (block_fine b) (readout (f (block_record b)).refusal (f (block_record b)).rest) (readout bad_study kept)

-- ---- opening and rewind judge no block: what the call itself finds, then 4 for a block of another length
unfoldable pub lent_block : (fault block : ℕ) → ℕ
lent_block f n = or_else f (first (eqb n block_length) bad_store 0)

unfoldable pub open_on_block : (nx ny nz slots : ℕ) → Spacings → (constants : ℕ) → List ℕ → Stores → Sent Stores
open_on_block nx ny nz slots spacings constants b s =
    let r = open_record nx ny nz slots spacings constants in
    passed (settle (lent_block (fault_with r (lengths_of s)) (length b)) r s r (open_stores r)) b

unfoldable pub rewind_on_block : (save : List ℕ) → List ℕ → Stores → Sent Stores
rewind_on_block save b s =
    passed (settle (lent_block (rewind_fault save (lengths_of s)) (length b)) (read_record save) s (read_record save) (read_stores save)) b

-- ---- further answers: one goes into the first place of the room lent for it, if that has one
abbrev pub answered : {A : Type 0} → A → List A → List A
answered v room = set room 0 v

abbrev pub answering : {A : Type 0} → Outcome A → List A → Outcome (List A)
answering o room = outcome o.refusal o.study (answered o.rest room)

-- ---- a material as its bytes in ML, any NaN in them read as the NaN: 4 for another length, 3 for bytes that are no material
unfoldable pub material_fault : List ℕ → ℕ
material_fault m = first (eqb (length m) ml_length) bad_store (first (ml_shaped (entry_of m)) bad_study 0)

unfoldable pub material_of : List ℕ → DispersiveMaterial
material_of m = ml_of (entry_of m)

-- the record's own faults, then the bytes', then what adding finds
unfoldable pub add_bytes_fault : (material : List ℕ) → Record → ℕ
add_bytes_fault m r = or_else (fault_of r) (or_else (material_fault m) (add_fault r (material_of m)))

unfoldable pub add_bytes_call : (material : List ℕ) → Record → Outcome ℕ
add_bytes_call m r = settle (add_bytes_fault m r) r 0 (added r (material_of m)) r.material_count

-- ---- what is put into a box, as C names it: what is not asked for is not looked at
abbrev pub asked : (library : Bool) → (id : ℕ) → (eps mu sigma : Float) → Put
asked true id eps mu sigma = Library id
asked false id eps mu sigma = Numbers eps mu sigma

-- both stores, and the number of cells in the room lent for it
pub record Told : Type 0 where
  pub cells : List ℕ
  pub stores : Placed

abbrev pub told : List ℕ → Placed → Told
told n s = record { cells = n; stores = s }

abbrev pub telling : Outcome Filled → List ℕ → Outcome Told
telling o room = outcome o.refusal o.study (told (answered o.rest.cells room) o.rest.stores)

-- ---- which axes the layer is active on, as one number
abbrev pub axis_bits : List Bool → ℕ
axis_bits a = cond (get_or a 0 false) 1 0 + cond (get_or a 1 false) 2 0 + cond (get_or a 2 false) 4 0

pub record Named : Type 0 where
  pub axes : List ℕ
  pub stores : Layer

abbrev pub named : List ℕ → Layer → Named
named a s = record { axes = a; stores = s }

abbrev pub naming : Outcome Absorbed → List ℕ → Outcome Named
naming o room = outcome o.refusal o.study (named (answered (axis_bits o.rest.axes) room) o.rest.stores)
