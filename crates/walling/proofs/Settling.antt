-- What the calls that set walls may lean on where none of the first faults stands, and their stores as one value. Assumes nothing.
use Prim.Native.Nat.{ℕ, ◌+◌, ◌*◌}
use mathlib.Core.Path.{◌≡◌}
use lib.Dec.{eqb}
use borrow.Author.Tests.{eqb-true}
use Rattle.grid.specs.declared.Record.{Record}
use Rattle.grid.specs.Inner.Sound.{Sound}
use Rattle.grid.specs.Stores.{store_lengths}
use Rattle.grid.proofs.Tests.{and_left, and_right, or_none}
use Rattle.grid.proofs.Settled.{lent_none}
use Rattle.opening.specs.Layer.{layer_long}
use Rattle.opening.proofs.Layered.{tables_long}
use Rattle.boundary.specs.Walls.{lossy_fault}

pub record Lossable (r : Record) (tables media : ℕ) : Type 0 where
  pub sizes : Sound r
  pub tabled : tables ≡ 6 * (r.nx + r.ny + r.nz)
  pub numbers : media ≡ 3 * (r.nx * r.ny * r.nz)

pub lossy_none : (r : Record) (order pe ph t m : ℕ) → lossy_fault r order pe ph t m ≡ 0 → Lossable r t m
unfolding lossy_fault store_lengths
lossy_none r order pe ph t m e =
    let l = lent_none r _ (or_none _ _ e).0 in
    let longLayer = layer_long pe ph t (store_lengths r) in
    let longMedia = eqb m (3 * (r.nx * r.ny * r.nz)) in
    record {
      sizes = l.0;
      tabled = tables_long r pe ph t (and_left longLayer longMedia l.1);
      numbers = eqb-true m (3 * (r.nx * r.ny * r.nz)) (and_right longLayer longMedia l.1);
    }
