-- The length of the tables where the layer's stores passed. Assumes nothing.
use Prim.Native.Nat.{ℕ, ◌+◌, ◌*◌}
use mathlib.Core.Path.{◌≡◌}
use mathlib.Core.Bool.{true, ◌&&◌}
use lib.Dec.{eqb}
use borrow.Author.Tests.{eqb-true}
use Rattle.grid.specs.declared.Record.{Record}
use Rattle.grid.specs.Stores.{store_lengths}
use Rattle.grid.proofs.Tests.{and_right}
use Rattle.opening.specs.Layer.{layer_long}

pub tables_long : (r : Record) (pe ph t : ℕ) → layer_long pe ph t (store_lengths r) ≡ true → t ≡ 6 * (r.nx + r.ny + r.nz)
unfolding layer_long store_lengths
tables_long r pe ph t e =
    let n = 6 * (r.nx * r.ny * r.nz) in
    eqb-true t (6 * (r.nx + r.ny + r.nz)) (and_right (eqb pe n && eqb ph n) (eqb t (6 * (r.nx + r.ny + r.nz))) e)
