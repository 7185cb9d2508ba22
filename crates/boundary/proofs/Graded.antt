-- The walls' numbers looked up, and what each branch of the code picks. Assumes nothing.
use Rattle.std.proofs.Common.{◌≡◌, ℕ, ◌-◌, ◌*◌, ◌<◌, Bool, true, false, cond, ◌&&◌, eqb, List, get_or, sym, refl, ap, ◌∙◌, arith}
use lib.Ieee.{Float, nan}
use Rattle.codec.specs.Lists.{put}
use Rattle.cells.specs.Cells.{cellwise}
use Rattle.cells.proofs.Pointwise.{cellwise_same, cells_same}
use Rattle.grid.specs.declared.Record.{Record}
use Rattle.boundary.specs.declared.LossyAbsorber.{LossyAbsorber}
use Rattle.boundary.specs.Lossy.{wall_sigma, strongest, thick_x, thick_y, thick_z, graded_sigma, lossy_sigma, no_wall, lossy_media}

-- sigma of the cell (i, j, k) by the numbers of the walls
abbrev looked : (nx ny nz : ℕ) → (x y z : List Float) → ℕ → ℕ → ℕ → Float
looked nx ny nz x y z i j k =
    strongest (get_or x i nan) (get_or x (nx - 1 - i) nan) (get_or y j nan) (get_or y (ny - 1 - j) nan) (get_or z k nan) (get_or z (nz - 1 - k) nan)

-- the walls filled by their rule give the graded conductivity
pub graded_cells : (nx ny nz tx ty tz order : ℕ) (max : Float) (x y z m n : List Float) (at : ℕ) →
    ((d : ℕ) → d < nx → get_or x d nan ≡ wall_sigma tx order max d) → ((d : ℕ) → d < ny → get_or y d nan ≡ wall_sigma ty order max d) →
    ((d : ℕ) → d < nz → get_or z d nan ≡ wall_sigma tz order max d) →
    n ≡ put m at (cellwise nx ny nz (looked nx ny nz x y z)) → n ≡ put m at (cellwise nx ny nz (graded_sigma nx ny nz tx ty tz order max))
unfolding graded_sigma
graded_cells nx ny nz tx ty tz order max x y z m n at fx fy fz e =
    e
    ∙ ap (put m at) (cellwise_same nx ny nz _ _ (λ i j k p q r.
    rw (fx i p, fx (nx - 1 - i) (omega arith), fy j q, fy (ny - 1 - j) (omega arith), fz k r, fz (nz - 1 - k) (omega arith))))

-- no wall, or some
module _ (r : Record) (a : LossyAbsorber) (m : List Float) (tx ty tz : ℕ) (x : tx ≡ thick_x r a.thickness) (y : ty ≡ thick_y r a.thickness) (z : tz ≡ thick_z r a.thickness) where
  told : (eqb tx 0 && eqb ty 0) && eqb tz 0 ≡ no_wall r a.thickness
  unfolding no_wall
  told = rw (x, y, z)

  pub wall_none : (eqb tx 0 && eqb ty 0) && eqb tz 0 ≡ true → m ≡ lossy_media r a m
  unfolding lossy_media
  wall_none h = sym (ap (λ (b : Bool). cond b m (put m (2 * (r.nx * r.ny * r.nz)) (cellwise r.nx r.ny r.nz (lossy_sigma r a)))) (sym told ∙ h))

  pub wall_some : (n : List Float) → (eqb tx 0 && eqb ty 0) && eqb tz 0 ≡ false →
      n ≡ put m (2 * (r.nz * (r.ny * r.nx))) (cellwise r.nx r.ny r.nz (graded_sigma r.nx r.ny r.nz tx ty tz a.order a.sigma_max)) →
      n ≡ lossy_media r a m
  unfolding lossy_media lossy_sigma
  wall_some n h e =
      e
      ∙ rw (x, y, z, ← cells_same r.nx r.ny r.nz) refl
      ∙ sym (ap (λ (b : Bool). cond b m (put m (2 * (r.nx * r.ny * r.nz)) (cellwise r.nx r.ny r.nz (lossy_sigma r a)))) (sym told ∙ h))
