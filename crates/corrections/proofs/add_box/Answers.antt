use Rattle.cells.proofs.Sweeps.{sweep_none, sweep_more}
use Rattle.corrections.proofs.Adding.{plane_keeps}
use Rattle.cells.specs.Inner.Blocks.{on, in_blocks}
use Rattle.corrections.specs.Inner.Faces.{add_plane, add_box, addends}
use lib.ListN.{length}
use native.Mathlib.Omega.{arith}
use Prim.Native.Nat.{◌+◌, ◌*◌, ◌≤◌}
use mathlib.Core.Path.{◌≡◌, ap, ◌∙◌}
use Rattle.corrections.proofs.add_box.Goals as goal

pub loop-k-init : goal.loop-k-init
loop-k-init c =
    let room : c.args.f.component * c.args.w.n + c.args.w.nz * (c.args.w.ny * c.args.w.nx) ≤ length c.args.s.now = omega (arith, c.requires.0.count, c.requires.0.room) in
    let a = c.args in
    let b = a.f.b in
    sweep_none (a.f.component * a.w.n) a.w.nz (a.w.ny * a.w.nx) b.k0 _ (plane_keeps a.w.nx a.w.ny b (addends a.w a.f a.media.now a.line.now)) a.s.now room

pub loop-k-preserved : goal.loop-k-preserved
loop-k-preserved c =
    let room : c.args.f.component * c.args.w.n + c.args.w.nz * (c.args.w.ny * c.args.w.nx) ≤ length c.args.s.now = omega (arith, c.requires.0.count, c.requires.0.room) in
    let a = c.args in
    let b = a.f.b in
    let l = c.loop-k in
    c.add_plane.ensures
    ∙ ap (λ s. on (a.f.component * a.w.n + l.k * (a.w.ny * a.w.nx)) (a.w.ny * a.w.nx) (add_plane a.w.nx a.w.ny b (λ i j. addends a.w a.f a.media.now a.line.now i j l.k)) s) l.invariant
    ∙ sweep_more (a.f.component * a.w.n) a.w.nz (a.w.ny * a.w.nx) b.k0 _ (plane_keeps a.w.nx a.w.ny b (addends a.w a.f a.media.now a.line.now)) a.s.now room l.k (omega arith) (omega arith)

pub returns : goal.returns
unfolding add_box
returns c = let a = c.args in
    let b = a.f.b in
    let l = c.loop-k in
    let e : l.k ≡ b.k1 = omega arith in
    l.invariant
    ∙ ap (λ k. on (a.f.component * a.w.n) (a.w.nz * (a.w.ny * a.w.nx)) (in_blocks a.w.nz (a.w.ny * a.w.nx) b.k0 k (λ k. add_plane a.w.nx a.w.ny b (λ i j. addends a.w a.f a.media.now a.line.now i j k))) a.s.now) e
