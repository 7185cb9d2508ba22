-- What memory holds of a study, what of it is the study, and what the C functions are asked and answer. Definitions only.
use Rattle.std.specs.Prelude.{ℕ, zero, suc, ◌≡◌, Bool, true, false, List, [], ◌∷◌, T, length, Float}
use Rattle.std.proofs.Math.Option.{Option, none, some}
use Rattle.study.specs.History.{Call, opening, doing, saving, rewinding}
use Rattle.codec.specs.Lists.{put}
use Rattle.codec.specs.Bytes.{bytes_fit, floats_fit}
use Rattle.root.specs.declared.Spacings.{Spacings}
use Rattle.cells.specs.declared.IndexBox.{IndexBox}
use Rattle.grid.specs.declared.Record.{Record}
use Rattle.grid.specs.declared.stores.Lengths.{Lengths}
use Rattle.grid.specs.Stores.{Stores, lengths_of}
use Rattle.grid.specs.Canon.{canon}
use Rattle.materials.specs.declared.Put.{Put}
use Rattle.materials.specs.declared.Put.TheVariants.{Numbers, Library}
use Rattle.boundary.specs.declared.LossyAbsorber.{LossyAbsorber}
use Rattle.block.specs.Block.{block_fine, block_record}
use Rattle.format.specs.InMemory.{StoresHeld}

-- ---- a block's bytes and nine stores, as memory holds them: `hold` of `api` shows that whatever code is lent is so
pub record World : Type 0 where
  pub block : List ℕ
  pub kept : Stores
  pub bytes : T (bytes_fit block)
  pub fits : StoresHeld kept

-- the same block, and the same numbers in every store
abbrev pub Unchanged : World → World → Type 0
Unchanged w v = (v.block ≡ w.block) × (v.kept ≡ w.kept)

-- how long the block is, and each store
pub record Lent : Type 0 where
  pub block : ℕ
  pub stores : Lengths

abbrev pub lent_in : World → Lent
lent_in w = record { block = length w.block; stores = lengths_of w.kept }

-- ---- the study (document 01): the record without what means nothing, and the stores. A Float has one NaN
pub record Study : Type 0 where
  pub rec : Record
  pub kept : Stores

abbrev pub if_fine : Bool → Study → Option Study
if_fine true t = some t
if_fine false t = none

-- a block that is no record has none
abbrev pub study_of : World → Option Study
study_of w = if_fine (block_fine w.block) (record { rec = canon (block_record w.block); kept = w.kept })

-- ---- what is asked
pub record Opening : Type 0 where
  pub nx : ℕ
  pub ny : ℕ
  pub nz : ℕ
  pub slots : ℕ
  pub spacings : Spacings
  pub constants : ℕ

-- every other C function on a study, saves and rewinds apart, with what it is asked; `room` is the length of the room for its answer
pub data Act : Type 0 where
  -- cichowiej_put_box, cichowiej_assign_material_halfspace_z
  put_box : IndexBox → Put → (room : ℕ) → Act
  assign_halfspace : (id k0 : ℕ) → Act
  -- cichowiej_add_material, handed bytes
  add_material : (material : List ℕ) → (room : ℕ) → Act
  -- cichowiej_build_dispersion
  build_dispersion : Act
  -- cichowiej_set_periodic, cichowiej_set_boundary_periodic, cichowiej_set_boundary_conductor, cichowiej_set_boundary_lossy, cichowiej_set_boundary_cpml
  set_periodic : (x y z : Bool) → Act
  walls_periodic : Act
  walls_conductor : Act
  walls_lossy : LossyAbsorber → Act
  walls_cpml : (x y z : Bool) → (thickness : ℕ) → (given : List Float) → (room : ℕ) → Act
  -- cichowiej_slab_z, cichowiej_injector_z, cichowiej_box_region
  slab : (k0 k1 : ℕ) → Act
  injector : (k0 : ℕ) → Act
  box_region : (i0 i1 j0 j1 k0 k1 : ℕ) → Act
  -- cichowiej_step, cichowiej_run
  step : (sample : Float) → Act
  run : (samples : List Float) → Act
  -- cichowiej_reset_fields, cichowiej_total_energy, cichowiej_plane_reading
  reset_fields : Act
  total_energy : (room : ℕ) → Act
  plane_reading : (k : ℕ) → (room : ℕ) → Act
  -- cichowiej_save_length
  ask_length : (room : ℕ) → Act

-- an opening is cichowiej_open, a save cichowiej_save, a rewind cichowiej_rewind
abbrev pub Asked : Type 0
Asked = Call Opening Act Lent

-- ---- what is asked is such as memory can hold: floats of 64 bits, bytes. Whole numbers need no bound here: a call that keeps one has judged it
abbrev pub Floats : List Float → Type 0
Floats l = T (floats_fit l)

abbrev pub SaidOpening : Opening → Type 0
SaidOpening o = Floats (o.spacings.dx ∷ o.spacings.dy ∷ o.spacings.dz ∷ o.spacings.dt ∷ [])

abbrev pub SaidPut : Put → Type 0
SaidPut (Numbers eps mu sigma) = Floats (eps ∷ mu ∷ sigma ∷ [])
SaidPut (Library id) = Unit {0}

abbrev pub SaidAct : Act → Type 0
SaidAct (put_box b what n) = SaidPut what
SaidAct (assign_halfspace id k0) = Unit {0}
SaidAct (add_material m n) = T (bytes_fit m)
SaidAct build_dispersion = Unit {0}
SaidAct (set_periodic x y z) = Unit {0}
SaidAct walls_periodic = Unit {0}
SaidAct walls_conductor = Unit {0}
SaidAct (walls_lossy a) = Floats (a.sigma_max ∷ [])
SaidAct (walls_cpml x y z t g n) = Floats g
SaidAct (slab k0 k1) = Unit {0}
SaidAct (injector k0) = Unit {0}
SaidAct (box_region i0 i1 j0 j1 k0 k1) = Unit {0}
SaidAct (step x) = Floats (x ∷ [])
SaidAct (run xs) = Floats xs
SaidAct reset_fields = Unit {0}
SaidAct (total_energy n) = Unit {0}
SaidAct (plane_reading k n) = Unit {0}
SaidAct (ask_length n) = Unit {0}

abbrev pub SaidCall : Asked → Type 0
SaidCall (opening o l) = SaidOpening o
SaidCall (doing c) = SaidAct c
SaidCall (saving n) = Unit {0}
SaidCall (rewinding b l) = T (bytes_fit b)

-- ---- what is answered besides the refusal's number: what is written at the front of the room that is lent for it. A box's number of cells, an added material's id, the
-- active axes, a save's length and the bytes of a save are whole numbers, the readings floats
pub data Answer : Type 0 where
  nothing : Answer
  numbers : List ℕ → Answer
  floats : List Float → Answer

-- what stands in such a room
abbrev pub Room : Type 0
Room = Answer

-- one number at the front of a room of length n, if that has a place
abbrev pub front : {A : Type 0} → (n : ℕ) → A → List A
front zero x = []
front (suc n) x = x ∷ []

-- the room with the answer at its front
abbrev pub puts : Answer → Room → Room
puts nothing room = room
puts (numbers a) nothing = nothing
puts (numbers a) (numbers l) = numbers (put l 0 a)
puts (numbers a) (floats l) = floats l
puts (floats a) nothing = nothing
puts (floats a) (numbers l) = numbers l
puts (floats a) (floats l) = floats (put l 0 a)

-- a room of n numbers, of n floats
abbrev pub NumbersLent : ℕ → Room → Type 0
NumbersLent n nothing = ⊥
NumbersLent n (numbers l) = length l ≡ n
NumbersLent n (floats l) = ⊥

abbrev pub FloatsLent : ℕ → Room → Type 0
FloatsLent n nothing = ⊥
FloatsLent n (numbers l) = ⊥
FloatsLent n (floats l) = length l ≡ n

-- the bytes of a save's answer
abbrev pub written_in : Answer → List ℕ
written_in nothing = []
written_in (numbers l) = l
written_in (floats l) = []
