use mathlib.Core.Path.{refl}
use Prim.Native.Nat.{◌+◌, ◌*◌, ◌≤◌}
use native.Mathlib.Omega.{arith}
use Rattle.fdtd.proofs.Places.{row_in}
use Rattle.fdtd.proofs.turns.row_at.Goals as goal

pub returns : goal.returns
returns c = let a = c.args in let p : (a.s + a.t * a.g.s.n) * a.g.r.n + a.g.r.n ≤ a.g.t.n * a.g.s.n * a.g.r.n = row_in a.g.r.n (omega arith) (omega arith) in (refl, omega arith)
