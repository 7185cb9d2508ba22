-- What a record without fault meets, as inequalities that `omega` reads wherever a `requires` has them. A product of sizes is one unknown to it, so each
-- product that code forms has its bound here.
use Rattle.std.specs.Prelude.{◌+◌, ◌*◌, ◌≤◌}
use Rattle.grid.specs.declared.Record.{Record}

pub record Sound (r : Record) : Type 0 where
  pub x1 : 1 ≤ r.nx
  pub y1 : 1 ≤ r.ny
  pub z1 : 1 ≤ r.nz
  pub xs : r.nx ≤ 512
  pub ys : r.ny ≤ 512
  pub zs : r.nz ≤ 512
  pub plane : r.nx * r.ny ≤ 262144
  pub some : 1 ≤ r.nx * r.ny * r.nz
  pub cells : r.nx * r.ny * r.nz ≤ 1048576
  pub slots : r.pole_slots ≤ 4
  pub poles : (6 * r.pole_slots + 3) * (r.nx * r.ny * r.nz) ≤ 28311552
  pub materials : r.material_count ≤ 16
