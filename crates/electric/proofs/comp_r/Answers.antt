use mathlib.Core.Path.{◌∙◌, sym, ap}
use Prim.Native.Nat.{◌+◌, zero-le}
use native.Mathlib.Nat.{le_refl}
use Rattle.root.specs.Rounded.{zero_f}
use Rattle.fdtd.specs.declared.rows.Side.{Side}
use Rattle.fdtd.specs.Axes.{walled}
use Rattle.electric.proofs.Slopes.{across_slope, within_in}
use Rattle.fdtd.proofs.Stands.{stands_across, calm_across, room_across, lower, mem_apart, thrice, row_fits, row_le}
use Rattle.electric.proofs.Edges.{fill_front}
use Rattle.electric.proofs.Component.{idle, moved, free, barred, change_fits}
use Rattle.electric.proofs.comp_r.Goals as goal

pub row-requires : goal.row-requires
row-requires c =
    let across = c.across-b in
    let across2 = c.across-c in
    let change-at = c.change_at-d in
    let a = c.args in
    let x = a.l.now in
    let g = x.g in
    let p = x.p in
    let f = c.requires in record {
      a_bound = (zero-le, f.some, le_refl g.r.n, f.small);
      n_in_bounds = (row_fits g.r.at p.q g.r.n g.count _ f.hr x.own, change_fits x.w g.r.at p.q g.r.n g.count _ change-at.ensures x.dp_room.r x.own);
      side_room = (
        room_across g.s _ _ _ _ _ _ _ across.ensures (row_fits g.t.at p.q g.r.n g.count _ f.et x.own)
            (row_fits g.t.at p.bs g.r.n g.count _ f.et x.ons)
            (thrice g.r.tab g.r.n _ _ f.tr (le_refl g.r.n)) (row_fits g.r.mem p.q g.r.n g.count _ (lower g.r.mem g.count _ f.mr) x.own),
        room_across g.t _ _ _ _ _ _ _ across2.ensures (row_fits g.s.at p.q g.r.n g.count _ f.es x.own)
            (row_fits g.s.at p.bt g.r.n g.count _ f.es x.ont)
            (thrice g.r.tab g.r.n _ _ f.tr (le_refl g.r.n)) (row_fits (g.r.mem + g.count) p.q g.r.n g.count _ f.mr x.own),
      );
      calm = (calm_across g.s _ _ _ _ _ _ _ across.ensures zero-le, calm_across g.t _ _ _ _ _ _ _ across2.ensures zero-le);
      n_bound = mem_apart g.r.mem p.q g.r.n g.count _ _ (ap (λ (s : Side). s.mem) across.ensures) (ap (λ (s : Side). s.mem) across2.ensures) x.own;
    }

pub returns-then-walled_at : goal.returns-then-walled_at
returns-then-walled_at c =
    let pre = c.requires in
    let a = c.args in
    let x = a.l.now in
    let g = x.g in
    let p = x.p in
    idle g.r g.s g.t g.count x.h.now x.tab.now a.mem.now x.f.now x.poles.now a.e.now x.w p.q g.r.n
    (λ i. p.s) (λ i. p.t) (λ i. p.bs + i) (λ i. p.bt + i) (λ i. barred (walled g.s p.s) (walled g.t p.t) c.walled_at.ensures c.walled_at-2.ensures c.if-walled_at.true)
    (fill_front a.e.now (g.r.at + p.q) g.r.n zero_f (row_fits g.r.at p.q g.r.n g.count _ pre.hr x.own) c.fill.ensures)

pub returns-else-walled_at : goal.returns-else-walled_at
returns-else-walled_at c =
    let across = c.across-b in
    let across2 = c.across-c in
    let a = c.args in
    let x = a.l.now in
    let g = x.g in
    let p = x.p in
    moved g.r g.s g.t g.count x.h.now x.tab.now a.mem.now x.f.now x.poles.now a.e.now x.w p.q g.r.n
    (λ i. p.s) (λ i. p.t) (λ i. p.bs + i) (λ i. p.bt + i) _ _ _ 0 g.r.n _ _
    zero-le (le_refl g.r.n) (row_le p.q g.r.n _ x.own) c.change_at-d.ensures
    (λ i.
    stands_across g.s g.t _ _ _ p.q i _ _ _ _ _ g.r.mem across.ensures
    (across_slope g.s g.t _ x.tab.now _ p.q i p.s 0 _ p.bs _ across.ensures))
    (λ i.
    stands_across g.t g.s _ _ _ p.q i _ _ _ _ _ (g.r.mem + g.count) across2.ensures
    (across_slope g.t g.s _ x.tab.now _ p.q i p.t 0 _ p.bt _ across2.ensures))
    (λ i l. free (walled g.s p.s) (walled g.t p.t) c.walled_at.ensures c.walled_at-2.ensures c.if-walled_at.false ∙ sym (within_in 0 g.r.n i zero-le l))
    c.row.ensures.span c.row.ensures.two
