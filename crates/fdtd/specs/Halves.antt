-- The two half steps, each store as a list of its cells' numbers (fdtd.rs, `update_h_field` and `update_e_field`). No new number depends on a new number
-- of another cell of its own field or memories, so that no order of cells is in it. The ψ that joins a curl is the new one, worked out there from the old. Definitions only.
use Rattle.std.specs.Prelude.{ℕ, ◌+◌, ◌/◌, ◌%◌, Bool, cond, List, eqb, get_or, Float}
use Rattle.std.specs.Float.{nan}
use Rattle.cells.specs.Cells.{cell_index, components}
use Rattle.grid.specs.declared.Record.{Record}
use Rattle.grid.specs.Stores.{number_at, cells}
use Rattle.fdtd.specs.declared.Axis.{Axis}
use Rattle.fdtd.specs.Axes.{axis, turn, place, next_cell, previous_cell}
use Rattle.fdtd.specs.Yee.{Term, term, derivative, coef_at, curl, memory_after, factor, moves_h, updated_h, ca, cb, moves_e, updated_e}

abbrev cell_of : Record → (i j k : ℕ) → ℕ
cell_of r i j k = cell_index r.nx r.ny i j k

-- what sets the half steps apart: at which of an axis's six tables theirs begin, between which cells a difference along an axis is taken, which
-- numbers are updated (an H number that is not stays, an E number that is not is +0.0)
pub record Half : Type 0 where
  pub from : ℕ
  pub lo : Record → (axis i j k : ℕ) → ℕ
  pub hi : Record → (axis i j k : ℕ) → ℕ
  pub moves : (B C : Axis) → (pB pC : ℕ) → Bool

-- the magnetic one: from a cell to the one after
abbrev pub half_h : Half
half_h = record { from = 3; lo = λ r a i j k. cell_of r i j k; hi = next_cell; moves = moves_h }

-- the electric one: from the cell before to the cell
abbrev pub half_e : Half
half_e = record { from = 0; lo = previous_cell; hi = λ r a i j k. cell_of r i j k; moves = moves_e }

-- of the component along a of the cell (i, j, k), by the other field, the tables and the memories
module _ (w : Half) (r : Record) (field tables mem : List Float) (a i j k : ℕ) where
  abbrev axis_of : ℕ → Axis
  axis_of v = axis r w.from v

  -- whether it moves
  unfoldable pub moves_at : Bool
  moves_at = w.moves (axis_of (turn a)) (axis_of (turn (turn a))) (place (turn a) i j k) (place (turn (turn a)) i j k)

  -- a term of its curl: the derivative along b of the number along c, whose memory stands at `at`
  abbrev term_at : (b c at : ℕ) → Term
  term_at b c at =
      term (axis_of b).on (coef_at (axis_of b) tables (place b i j k)) (get_or mem at nan)
      (derivative (axis_of b) (axis_of c) field (w.lo r b i j k) (w.hi r b i j k))

  -- the curl's first term, ∂F_C/∂B, and its second, ∂F_B/∂C
  abbrev pub first_term : Term
  first_term = term_at (turn a) (turn (turn a)) ((axis_of a).mem + cell_of r i j k)

  abbrev pub second_term : Term
  second_term = term_at (turn (turn a)) (turn a) ((axis_of a).mem + cells r + cell_of r i j k)

  unfoldable pub curl_at : Float
  curl_at = curl first_term second_term

  -- their memories after the half step
  unfoldable pub first_after : Float
  first_after = memory_after moves_at first_term

  unfoldable pub second_after : Float
  second_after = memory_after moves_at second_term

-- the six memories after a half step: number 2a is that of a's first derivative, 2a + 1 that of its second
unfoldable pub psi_after : Half → Record → (field tables mem : List Float) → List Float
psi_after w r field tables mem =
    components 6 r.nx r.ny r.nz (λ m i j k. cond (eqb (m % 2) 0)
    (first_after w r field tables mem (m / 2) i j k)
    (second_after w r field tables mem (m / 2) i j k))

-- the magnetic store after its half step
unfoldable pub magnetic_at : (mu0 : Float) → Record → (electric media tables psi_h magnetic : List Float) → (a i j k : ℕ) → Float
magnetic_at mu0 r e media tables psi h a i j k =
    updated_h (moves_at half_h r e tables psi a i j k)
    (factor r.spacings.dt mu0 (number_at media (cells r) 1 (cell_of r i j k)))
    (curl_at half_h r e tables psi a i j k)
    (number_at h (cells r) a (cell_of r i j k))

unfoldable pub magnetic_after : (mu0 : Float) → Record → (electric media tables psi_h magnetic : List Float) → List Float
magnetic_after mu0 r e media tables psi h = components 3 r.nx r.ny r.nz (magnetic_at mu0 r e media tables psi h)

-- the electric store after its half step; dp is the polarization's change by component and cell
unfoldable pub electric_at :
    (eps0 : Float) → Record → (magnetic media tables : List Float) → (ℕ → ℕ → Float) → (psi_e electric : List Float) → (a i j k : ℕ) → Float
electric_at eps0 r h media tables dp psi e a i j k =
    let dt = r.spacings.dt in
    let cell = cell_of r i j k in
    let eps_r = number_at media (cells r) 0 cell in
    let sigma = number_at media (cells r) 2 cell in
    updated_e (moves_at half_e r h tables psi a i j k) (ca eps0 dt eps_r sigma) (cb eps0 dt eps_r sigma) dt (dp a cell)
    (curl_at half_e r h tables psi a i j k)
    (number_at e (cells r) a cell)

unfoldable pub electric_after : (eps0 : Float) → Record → (magnetic media tables : List Float) → (ℕ → ℕ → Float) → (psi_e electric : List Float) → List Float
electric_after eps0 r h media tables dp psi e = components 3 r.nx r.ny r.nz (electric_at eps0 r h media tables dp psi e)
