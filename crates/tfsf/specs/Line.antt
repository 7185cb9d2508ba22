-- The auxiliary line that carries the incident wave, ex and hy of nz + 48 places each: the same leapfrog along z in vacuum, with first-order absorbing ends
-- (Mur 1981; tfsf.rs, `Aux1D`). Place a of ex lies at the plane k = a - 24, place a of hy half a cell above it. n is the number of places. Definitions only.
use Rattle.std.specs.Prelude.{ℕ, ◌+◌, ◌-◌, cond, List, ◌++◌, ltb, eqb, get_or, Float}
use Rattle.std.specs.Float.{nan}
use Rattle.root.specs.Rounded.{◌⊕◌, ◌⊖◌, ◌⊗◌, ◌⊘◌}
use Rattle.root.specs.declared.Spacings.{Spacings}
use Rattle.cells.specs.Cells.{row}

-- where the source is
abbrev pub source_index : ℕ
source_index = 6

-- ex and hy at the place a
abbrev pub ex_at : List Float → ℕ → Float
ex_at line a = get_or line a nan

abbrev pub hy_at : (n : ℕ) → List Float → ℕ → Float
hy_at n line a = get_or line (n + a) nan

-- ---- one number's step
-- the leapfrog: less the factor times the difference of the other field
abbrev pub leapfrog : (factor own above below : Float) → Float
leapfrog factor own above below = own ⊖ factor ⊗ (above ⊖ below)

-- its factor, dt/(μ0 dz) for hy and dt/(ε0 dz) for ex: unit is μ0 or ε0
abbrev pub line_factor : (unit : Float) → Spacings → Float
line_factor unit s = s.dt ⊘ (unit ⊗ s.dz)

abbrev pub hy_inner : (factor : Float) → (n : ℕ) → List Float → ℕ → Float
hy_inner factor n line a = leapfrog factor (hy_at n line a) (ex_at line (a + 1)) (ex_at line a)

abbrev pub ex_inner : (factor : Float) → (n : ℕ) → List Float → ℕ → Float
ex_inner factor n line a = leapfrog factor (ex_at line a) (hy_at n line a) (hy_at n line (a - 1))

-- Mur's end, whose neighbour had `old` and has `new`
abbrev pub mur_end : (factor own old new : Float) → Float
mur_end factor own old new = old ⊕ factor ⊗ (new ⊖ own)

abbrev pub mur_factor : (c0 : Float) → Spacings → Float
mur_factor c0 s = (c0 ⊗ s.dt ⊖ s.dz) ⊘ (c0 ⊗ s.dt ⊕ s.dz)

-- ---- hy: the last place has no neighbour and stands
unfoldable pub hy_after : (mu0 : Float) → Spacings → (n : ℕ) → List Float → ℕ → Float
hy_after mu0 s n line a = cond (ltb (a + 1) n) (hy_inner (line_factor mu0 s) n line a) (hy_at n line a)

unfoldable pub line_h : (mu0 : Float) → Spacings → (n : ℕ) → List Float → List Float
line_h mu0 s n line = row n (ex_at line) ++ row n (hy_after mu0 s n line)

-- ---- ex: the two ends apart
unfoldable pub ex_moved : (eps0 c0 : Float) → Spacings → (n : ℕ) → List Float → ℕ → Float
ex_moved eps0 c0 s n line a =
    let inner = ex_inner (line_factor eps0 s) n line in
    let end = mur_end (mur_factor c0 s) in
    cond (eqb a 0) (end (ex_at line 0) (ex_at line 1) (inner 1))
    (cond (eqb a (n - 1)) (end (ex_at line (n - 1)) (ex_at line (n - 2)) (inner (n - 2)))
    (inner a))

-- the sample is added last
unfoldable pub ex_after : (eps0 c0 : Float) → Spacings → (n : ℕ) → (sample : Float) → List Float → ℕ → Float
ex_after eps0 c0 s n sample line a = cond (eqb a source_index) (ex_moved eps0 c0 s n line a ⊕ sample) (ex_moved eps0 c0 s n line a)

unfoldable pub line_e : (eps0 c0 : Float) → Spacings → (n : ℕ) → (sample : Float) → List Float → List Float
line_e eps0 c0 s n sample line = row n (ex_after eps0 c0 s n sample line) ++ row n (hy_at n line)
