-- The graded conductivity of the lossy absorber (boundary.rs, `AbsorberLayer` and `apply_lossy_absorber`; document 01, 4). Definitions only.
use Rattle.std.specs.Prelude.{ℕ, zero, suc, ◌-◌, ◌*◌, ◌/◌, ◌%◌, Bool, false, cond, ◌&&◌, List, pos, ◌==◌, nat_lt, slice_index_or, Float}
use Rattle.std.specs.Float.{binary64}
use Rattle.std.specs.Float.Ieee.{of_int, lt}
use Rattle.codec.specs.Lists.{put}
use Rattle.root.specs.Rounded.{◌⊗◌, ◌⊘◌, zero_f, one_f}
use Rattle.cells.specs.Cells.{cellwise}
use Rattle.grid.specs.declared.Record.{Record}
use Rattle.boundary.specs.declared.LossyAbsorber.{LossyAbsorber}

-- power 0 is 1.0, an even power is (u·u) to half of it, an odd one u times the even one below. The exponent falls at each call, so that n calls are
-- enough; `deep` counts them, and power_0, power_even and power_odd (proofs/Power.antt) say the three rules without it.
unfoldable pub power_in : (deep : ℕ) → Float → ℕ → Float
power_in zero u n = one_f
power_in (suc deep) u n =
    cond (n == 0) one_f
    (cond (n % 2 == 0) (power_in deep (u ⊗ u) (n / 2))
    (u ⊗ power_in deep u (n - 1)))

unfoldable pub power : Float → ℕ → Float
power u n = power_in n u n

-- a count of cells as a number
abbrev pub of_count : ℕ → Float
of_count n = of_int binary64 (pos n)

-- sigma(d) = sigma_max ((t - d) / t)^order at d cells from a wall whose layer is t cells thick, and +0.0 beyond it
unfoldable pub wall_sigma : (t order : ℕ) → Float → ℕ → Float
wall_sigma t order max d = cond (nat_lt d t) (max ⊗ power (of_count (t - d) ⊘ of_count t) order) zero_f

-- a larger wall value replaces a smaller one only by `>`, so NaN and -0.0 leave +0.0
abbrev pub stronger : Float → Float → Float
stronger s v = cond (lt s v) v s

-- the strongest of the two walls of x, of y and of z, from +0.0
unfoldable pub strongest : (x0 x1 y0 y1 z0 z1 : Float) → Float
strongest x0 x1 y0 y1 z0 z1 = stronger (stronger (stronger (stronger (stronger (stronger zero_f x0) x1) y0) y1) z0) z1

-- no more than half of the cells along the axis, and none along a periodic one
unfoldable pub clamped : Bool → (thickness n : ℕ) → ℕ
clamped periodic t n = cond periodic 0 (cond (nat_lt t (n / 2)) t (n / 2))

-- the clamped thicknesses along x, y and z
abbrev pub thick_x : Record → ℕ → ℕ
thick_x r t = clamped (slice_index_or r.periodic 0 false) t r.nx

abbrev pub thick_y : Record → ℕ → ℕ
thick_y r t = clamped (slice_index_or r.periodic 1 false) t r.ny

abbrev pub thick_z : Record → ℕ → ℕ
thick_z r t = clamped (slice_index_or r.periodic 2 false) t r.nz

-- sigma of cell (i, j, k): cell i of n is i cells from the lower wall and n - 1 - i from the upper
unfoldable pub graded_sigma : (nx ny nz : ℕ) → (tx ty tz order : ℕ) → Float → ℕ → ℕ → ℕ → Float
graded_sigma nx ny nz tx ty tz order max i j k =
    strongest
    (wall_sigma tx order max i) (wall_sigma tx order max (nx - 1 - i))
    (wall_sigma ty order max j) (wall_sigma ty order max (ny - 1 - j))
    (wall_sigma tz order max k) (wall_sigma tz order max (nz - 1 - k))

unfoldable pub lossy_sigma : Record → LossyAbsorber → ℕ → ℕ → ℕ → Float
lossy_sigma r a =
    let t = a.thickness in
    graded_sigma r.nx r.ny r.nz (thick_x r t) (thick_y r t) (thick_z r t) a.order a.sigma_max

-- all three clamped thicknesses are 0
unfoldable pub no_wall : Record → ℕ → Bool
no_wall r t = thick_x r t == 0 && thick_y r t == 0 && thick_z r t == 0

-- the cell numbers with sigma, their last third, overwritten in every cell; where there is no wall all of them stand
unfoldable pub lossy_media : Record → LossyAbsorber → List Float → List Float
lossy_media r a media =
    cond (no_wall r a.thickness) media (put media (2 * (r.nx * r.ny * r.nz)) (cellwise r.nx r.ny r.nz (lossy_sigma r a)))
