-- What a record and the lengths of two stores meet where a box can be filled. Definitions only.
use Rattle.std.specs.Prelude.{ℕ, ◌*◌, ◌≤◌, ◌≡◌}
use Rattle.grid.specs.declared.Record.{Record}

pub record Fillable (r : Record) (media ids : ℕ) : Type 0 where
  pub plane : r.ny * r.nx ≤ 262144
  pub grid : r.nz * (r.ny * r.nx) ≤ 1048576
  pub numbers : media ≡ 3 * (r.nz * (r.ny * r.nx))
  pub places : ids ≡ r.nz * (r.ny * r.nx)
  pub materials : r.material_count ≤ 16
