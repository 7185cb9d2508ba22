use Rattle.cells.proofs.Sweeps.{sweep_none, sweep_more}
use Rattle.corrections.proofs.Adding.{row_keeps}
use Rattle.cells.specs.Inner.Blocks.{on, in_blocks}
use Rattle.corrections.specs.Inner.Faces.{add_row, add_plane, addend}
use native.Mathlib.Omega.{arith}
use Prim.Native.Nat.{◌+◌, ◌*◌}
use mathlib.Core.Path.{◌≡◌, ap, ◌∙◌}
use Rattle.corrections.proofs.add_plane.Goals as goal

pub loop-j-init : goal.loop-j-init
loop-j-init c =
    let a = c.args in
    let b = a.f.b in
    sweep_none a.q a.w.ny a.w.nx b.j0 _ (row_keeps a.w.nx b.i0 b.i1 (λ i j. addend a.w a.f a.media.now a.x (a.p + j * a.w.nx + i))) a.s.now c.requires.2

pub loop-j-preserved : goal.loop-j-preserved
loop-j-preserved c =
    let a = c.args in
    let b = a.f.b in
    let l = c.loop-j in
    c.add_row.ensures
    ∙ ap (λ s. on (a.q + l.j * a.w.nx) a.w.nx (add_row a.w.nx b.i0 b.i1 (λ i. addend a.w a.f a.media.now a.x (a.p + l.j * a.w.nx + i))) s) l.invariant
    ∙ sweep_more a.q a.w.ny a.w.nx b.j0 _ (row_keeps a.w.nx b.i0 b.i1 (λ i j. addend a.w a.f a.media.now a.x (a.p + j * a.w.nx + i))) a.s.now c.requires.2 l.j (omega arith) (omega arith)

pub returns : goal.returns
unfolding add_plane
returns c = let a = c.args in
    let b = a.f.b in
    let l = c.loop-j in
    let e : l.j ≡ b.j1 = omega arith in
    l.invariant
    ∙ ap (λ k. on a.q (a.w.ny * a.w.nx) (in_blocks a.w.ny a.w.nx b.j0 k (λ j. add_row a.w.nx b.i0 b.i1 (λ i. addend a.w a.f a.media.now a.x (a.p + j * a.w.nx + i)))) a.s.now) e
