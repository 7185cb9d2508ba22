-- How far a change can reach (document 02, S-13): the distance of two cells, what two studies share near a cell, steps of which none is refused, and what is then equal after them.
-- The client's words stand above each part. Definitions only.
use Rattle.std.specs.Prelude.{ℕ, ◌+◌, ◌-◌, ◌*◌, ◌≤◌, ◌<◌, min, max, ◌≡◌, Bool, false, cond, List, [], ◌∷◌, length, get_or, Float}
use Rattle.cells.specs.Cells.{cell_index}
use Rattle.grid.specs.declared.Record.{Record}
use Rattle.grid.specs.Stores.{Stores, number_at, cells}
use Rattle.fields.specs.Fields.{plane_of}
use Rattle.step.specs.Step.{step_call}
use Rattle.run.specs.Run.{run_call}

-- ---- "Distance is the largest difference of index over the axes, going round on a periodic one."
-- of the places p and q on an axis of n cells: |p - q|, or the way round if that is shorter
unfoldable pub places_apart : (periodic : Bool) → (n p q : ℕ) → ℕ
places_apart periodic n p q = let d = p - q + (q - p) in cond periodic (min d (n - d)) d

abbrev pub is_periodic : Record → (axis : ℕ) → Bool
is_periodic r a = get_or r.periodic a false

unfoldable pub distance : Record → (i j k i' j' k' : ℕ) → ℕ
distance r i j k i' j' k' =
    max (places_apart (is_periodic r 0) r.nx i i') (max (places_apart (is_periodic r 1) r.ny j j') (places_apart (is_periodic r 2) r.nz k k'))

-- ---- "equal cell numbers, ids, fields, memories and poles", all numbers of the cell with the index m. A Float has one NaN
-- the first n that two stores have for it
abbrev pub SameNumbers : Record → (n m : ℕ) → (f g : List Float) → Type 0
SameNumbers r n m f g = (c : ℕ) → c < n → number_at f (cells r) c m ≡ number_at g (cells r) c m

pub record SameCell (r : Record) (m : ℕ) (s t : Stores) : Type 0 where
  pub media : SameNumbers r 3 m s.media t.media
  pub id : get_or s.ids m 0 ≡ get_or t.ids m 0
  pub electric : SameNumbers r 3 m s.electric t.electric
  pub magnetic : SameNumbers r 3 m s.magnetic t.magnetic
  pub psi_e : SameNumbers r 6 m s.psi_e t.psi_e
  pub psi_h : SameNumbers r 6 m s.psi_h t.psi_h
  pub poles : SameNumbers r (6 * r.pole_slots + 3) m s.poles t.poles

-- ---- "equal records, tables, auxiliary lines, clocks .., and equal .. in each cell within n of a named cell": the record, with the clock, is r; the named cell is (i, j, k)
pub record SameWithin (r : Record) (n i j k : ℕ) (s t : Stores) : Type 0 where
  pub tables : s.tables ≡ t.tables
  pub aux : s.aux ≡ t.aux
  pub near : (i' j' k' : ℕ) → i' < r.nx → j' < r.ny → k' < r.nz → distance r i j k i' j' k' ≤ n → SameCell r (cell_index r.nx r.ny i' j' k') s t

-- ---- "Neither is refused in n steps of the grid engine": a call for each sample, and the stores after the last
module _ (eps0 mu0 c0 : Float) where
  abbrev pub Accepted : Record → (samples : List Float) → Stores → Type 0
  Accepted r [] s = Unit {0}
  Accepted r (x ∷ xs) s = ((step_call eps0 mu0 c0 r x s).refusal ≡ 0) × Accepted (step_call eps0 mu0 c0 r x s).study xs (step_call eps0 mu0 c0 r x s).rest

  abbrev pub after : Record → (samples : List Float) → Stores → Stores
  after r [] s = s
  after r (x ∷ xs) s = after (step_call eps0 mu0 c0 r x s).study xs (step_call eps0 mu0 c0 r x s).rest

-- ---- the statement; n is the number of samples, which both runs share
pub record Reach : Type 0 where
  -- "Then all numbers of the named cell are equal after them, NaNs as one."
  pub steps : (eps0 mu0 c0 : Float) (r : Record) (xs : List Float) (s t : Stores) (i j k : ℕ) → i < r.nx → j < r.ny → k < r.nz
      → SameWithin r (length xs) i j k s t → Accepted eps0 mu0 c0 r xs s → Accepted eps0 mu0 c0 r xs t
      → SameCell r (cell_index r.nx r.ny i j k) (after eps0 mu0 c0 r xs s) (after eps0 mu0 c0 r xs t)
  -- the n steps made in one call
  pub run : (eps0 mu0 c0 : Float) (r : Record) (xs : List Float) (s t : Stores) (i j k : ℕ) → i < r.nx → j < r.ny → k < r.nz
      → SameWithin r (length xs) i j k s t → (run_call eps0 mu0 c0 r xs s).refusal ≡ 0 → (run_call eps0 mu0 c0 r xs t).refusal ≡ 0
      → SameCell r (cell_index r.nx r.ny i j k) (run_call eps0 mu0 c0 r xs s).rest (run_call eps0 mu0 c0 r xs t).rest
  -- "asks whether the reading must be rerun": not that of the plane k, where the two studies share what lies within n of each of its cells. Of the record a step moves the clock alone,
  -- which the reading does not take
  pub reading : (eps0 mu0 c0 : Float) (r : Record) (xs : List Float) (s t : Stores) (k : ℕ) → k < r.nz
      → ((i j : ℕ) → i < r.nx → j < r.ny → SameWithin r (length xs) i j k s t)
      → (run_call eps0 mu0 c0 r xs s).refusal ≡ 0 → (run_call eps0 mu0 c0 r xs t).refusal ≡ 0
      → plane_of r k (run_call eps0 mu0 c0 r xs s).rest.electric (run_call eps0 mu0 c0 r xs s).rest.magnetic ≡
      plane_of r k (run_call eps0 mu0 c0 r xs t).rest.electric (run_call eps0 mu0 c0 r xs t).rest.magnetic
