-- The table of coefficients and the ends of runs, one slot, material or place at a time. Assumes nothing.
use Rattle.std.proofs.Common.{◌≡◌, ℕ, ◌+◌, ◌<◌, Bool, true, false, List, eqb, length, get_or, set, refl, arith}
use lib.Seq.{get_or-set_same, get_or-set_other}
use lib.Ieee.{Float}
use borrow.Author.Tests.{eqb-true, eqb-false}
use Rattle.grid.specs.declared.Record.{Record}
use Rattle.grid.specs.Fault.{material_at}
use Rattle.ade.specs.declared.Stepped.{Stepped}
use Rattle.ade.specs.Inner.Runs.{nothing, Stepping, Table}

-- one material more
pub table_more : (eps0 : Float) (r : Record) (i : ℕ) (k : Stepped) (old : List Stepped) → i < length old → Table eps0 r i old →
    Stepping eps0 r.spacings.dt (material_at r i) k → Table eps0 r (i + 1) (set old i k)
table_more eps0 r i k old l p q = record { each = λ b h. at b h (eqb b i) refl }
  where
    at : (b : ℕ) → b < i + 1 → (t : Bool) → eqb b i ≡ t → Stepping eps0 r.spacings.dt (material_at r b) (get_or (set old i k) b nothing)
    at b h true w = rw (eqb-true b i w, get_or-set_same old i k nothing l) q
    at b h false w = rw (get_or-set_other old i b k nothing (eqb-false b i w)) (p.each b (omega (arith, eqb-false b i w)))
