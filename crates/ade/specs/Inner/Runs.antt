-- How `advance` goes about it: by runs of cells of one material, each counted slot and component over the whole run, which moves three numbers of each cell
-- on. Definitions only.
use Rattle.std.specs.Prelude.{ℕ, zero, suc, ◌+◌, ◌*◌, ◌≤◌, ◌<◌, ◌≡◌, true, cond, List, [], eqb, length, get_or, set, Float}
use Rattle.std.specs.Float.{nan}
use Rattle.root.specs.Rounded.{◌⊕◌, ◌⊖◌}
use Rattle.dispersion.specs.declared.AdeCoeffs.{AdeCoeffs}
use Rattle.dispersion.specs.declared.DispersiveMaterial.{DispersiveMaterial}
use Rattle.dispersion.specs.Ade.{ade_coeffs}
use Rattle.dispersion.specs.Material.{pole_in}
use Rattle.grid.specs.declared.Record.{Record}
use Rattle.grid.specs.Fault.{material_at, poles_fit}
use Rattle.grid.specs.Inner.Sound.{Sound}
use Rattle.grid.specs.Stores.{number_at, cells}
use Rattle.ade.specs.declared.Stepped.{Stepped}
use Rattle.ade.specs.Polarization.{polarized}

-- what a caller has shown: a sound record of which no counted material has more poles than slots, stores of its lengths, and ids of counted materials
pub record PolesReady (r : Record) (ids : List ℕ) (electric poles : List Float) : Type 0 where
  pub sound : Sound r
  pub fit : poles_fit r ≡ true
  pub known : (m : ℕ) → m < cells r → get_or ids m 0 < r.material_count
  pub numbered : length ids ≡ cells r
  pub field : length electric ≡ 3 * cells r
  pub stored : length poles ≡ (6 * r.pole_slots + 3) * cells r

-- ---- the table of coefficients, and what reading past its end gives
abbrev pub none : AdeCoeffs
none = record { a1 = nan; a2 = nan; a3 = nan }

abbrev pub nothing : Stepped
nothing = record { count = 0; coeffs = [] }

abbrev pub coeff_at : Stepped → ℕ → AdeCoeffs
coeff_at k slot = get_or k.coeffs slot none

-- the first z slots of a material
pub record Listed (eps0 dt : Float) (material : DispersiveMaterial) (z : ℕ) (coeffs : List AdeCoeffs) : Type 0 where
  pub each : (slot : ℕ) → slot < z → get_or coeffs slot none ≡ ade_coeffs eps0 dt (pole_in material slot)

-- its counted slots
pub record Stepping (eps0 dt : Float) (material : DispersiveMaterial) (k : Stepped) : Type 0 where
  pub counted : k.count ≡ material.pole_count
  pub listed : Listed eps0 dt material material.pole_count k.coeffs

-- the first z materials
pub record Table (eps0 : Float) (r : Record) (z : ℕ) (table : List Stepped) : Type 0 where
  pub each : (i : ℕ) → i < z → Stepping eps0 r.spacings.dt (material_at r i) (get_or table i nothing)

-- ---- one cell
-- a store with one cell's three numbers moved on: p at i, p before at j, dp at d
unfoldable pub store_moved : AdeCoeffs → (e : Float) → (i j d : ℕ) → List Float → List Float
store_moved k e i j d s =
    let p = get_or s i nan in
    let q = polarized k p (get_or s j nan) e in
    set (set (set s i q) j p) d (get_or s d nan ⊕ (q ⊖ p))

-- the same of the cell's numbers g, by block
unfoldable pub moved : AdeCoeffs → (e : Float) → (i j d : ℕ) → (ℕ → Float) → ℕ → Float
moved k e i j d g x =
    let q = polarized k (g i) (g j) e in
    cond (eqb x d) (g d ⊕ (q ⊖ g i)) (cond (eqb x j) (g i) (cond (eqb x i) q (g x)))

-- the three components, e being the field's
abbrev pub tripled : AdeCoeffs → (e : ℕ → Float) → (i j d : ℕ) → (ℕ → Float) → ℕ → Float
tripled k e i j d g =
    moved k (e 2) (i + 2) (j + 2) (d + 2) (moved k (e 1) (i + 1) (j + 1) (d + 1) (moved k (e 0) i j d g))

-- the first s slots of `slots`
unfoldable pub through : (k : ℕ → AdeCoeffs) (slots : ℕ) (e : ℕ → Float) (s : ℕ) → (ℕ → Float) → ℕ → Float
through k slots e zero g = g
through k slots e (suc s) g = tripled (k s) e (3 * s) (3 * slots + 3 * s) (6 * slots) (through k slots e s g)

-- ---- cells from a up to z
-- each by its own F; F m takes the numbers of the cell m to what they are after
pub record Changed (n a z : ℕ) (F : ℕ → (ℕ → Float) → ℕ → Float) (old new : List Float) : Type 0 where
  pub same : length new ≡ length old
  pub done : (x m : ℕ) → a ≤ m → m < z → m < n → number_at new n x m ≡ F m (λ y. number_at old n y m) x
  pub below : (x m : ℕ) → m < a → m < n → number_at new n x m ≡ number_at old n x m
  pub above : (x m : ℕ) → z ≤ m → m < n → number_at new n x m ≡ number_at old n x m

abbrev pub field_at : (electric : List Float) (n m c : ℕ) → Float
field_at electric n m c = number_at electric n c m

-- one component of one slot; its three; the first `count` slots of one material; of each cell's own material
abbrev pub by_span : AdeCoeffs → (electric : List Float) → (n c i j d : ℕ) → ℕ → (ℕ → Float) → ℕ → Float
by_span k electric n c i j d m = moved k (field_at electric n m c) i j d

abbrev pub by_three : AdeCoeffs → (electric : List Float) → (n i j d : ℕ) → ℕ → (ℕ → Float) → ℕ → Float
by_three k electric n i j d m = tripled k (field_at electric n m) i j d

abbrev pub by_run : Stepped → (electric : List Float) → (n slots count : ℕ) → ℕ → (ℕ → Float) → ℕ → Float
by_run k electric n slots count m = through (coeff_at k) slots (field_at electric n m) count

abbrev pub by_cell : (table : List Stepped) (ids : List ℕ) (electric : List Float) → (n slots : ℕ) → ℕ → (ℕ → Float) → ℕ → Float
by_cell table ids electric n slots m = let k = get_or table (get_or ids m 0) nothing in by_run k electric n slots k.count m

-- z ends the run of one id from a on
pub record RunEnd (ids : List ℕ) (n a z : ℕ) : Type 0 where
  pub further : a < z
  pub within : z ≤ n
  pub alike : (m : ℕ) → a ≤ m → m < z → get_or ids m 0 ≡ get_or ids a 0

-- what the three stores have room for
pub record PolesRoom (n slots : ℕ) (electric poles : List Float) : Type 0 where
  pub few : slots ≤ 4
  pub field : 3 * n ≤ length electric
  pub blocks : (b : ℕ) → b < 6 * slots + 3 → b * n + n ≤ length poles
