use Rattle.cells.specs.Inner.Blocks.{on, in_blocks}
use Rattle.corrections.specs.Inner.Faces.{add_plane, addends}
use Prim.Native.Nat.{◌*◌}
use mathlib.Core.Path.{◌≡◌}
use Rattle.corrections.proofs.add_box.Given as goal

abbrev pub invariant-loop-k : goal.invariant-loop-k
invariant-loop-k l = (l.s ≡ on (l.f.component * l.w.n) (l.w.nz * (l.w.ny * l.w.nx)) (in_blocks l.w.nz (l.w.ny * l.w.nx) l.f.b.k0 l.k (λ k. add_plane l.w.nx l.w.ny l.f.b (λ i j. addends l.w l.f l.media l.line i j k))) l.initial.s)
