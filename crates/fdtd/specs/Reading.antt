-- What number a of the cell (i, j, k) is after a half step. Proved here, so that nothing of it has to be believed.
use Rattle.std.specs.Prelude.{ℕ, ◌<◌, ◌/◌, ◌%◌, ◌≡◌, cond, List, eqb, Float}
use Rattle.std.specs.Float.Ieee.{nan}
use Rattle.cells.specs.Cells.{cell_index}
use Rattle.cells.specs.Reading.{components_at}
use Rattle.grid.specs.declared.Record.{Record}
use Rattle.grid.specs.Stores.{number_at, cells}
use Rattle.fdtd.specs.Halves.{Half, first_after, second_after, psi_after, magnetic_at, magnetic_after, electric_at, electric_after}

module _ (r : Record) (i j k : ℕ) (x : i < r.nx) (y : j < r.ny) (z : k < r.nz) where
  abbrev cell : ℕ
  cell = cell_index r.nx r.ny i j k

  pub magnetic_at_lem : (mu0 : Float) (e media tables psi h : List Float) (a : ℕ) → a < 3 →
      number_at (magnetic_after mu0 r e media tables psi h) (cells r) a cell ≡ magnetic_at mu0 r e media tables psi h a i j k
  unfolding magnetic_after
  magnetic_at_lem mu0 e media tables psi h a l = components_at nan 3 r.nx r.ny r.nz (magnetic_at mu0 r e media tables psi h) a i j k l x y z

  pub electric_at_lem : (eps0 : Float) (h media tables : List Float) (dp : ℕ → ℕ → Float) (psi e : List Float) (a : ℕ) → a < 3 →
      number_at (electric_after eps0 r h media tables dp psi e) (cells r) a cell ≡ electric_at eps0 r h media tables dp psi e a i j k
  unfolding electric_after
  electric_at_lem eps0 h media tables dp psi e a l = components_at nan 3 r.nx r.ny r.nz (electric_at eps0 r h media tables dp psi e) a i j k l x y z

  -- number m of the six memories: of the first derivative of the component m / 2 where m is even, else of its second
  pub psi_at : (w : Half) (field tables mem : List Float) (m : ℕ) → m < 6 →
      number_at (psi_after w r field tables mem) (cells r) m cell ≡
      cond (eqb (m % 2) 0) (first_after w r field tables mem (m / 2) i j k) (second_after w r field tables mem (m / 2) i j k)
  unfolding psi_after
  psi_at w field tables mem m l = components_at nan 6 r.nx r.ny r.nz _ m i j k l x y z
