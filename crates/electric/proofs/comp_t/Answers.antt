use mathlib.Core.Path.{◌∙◌, sym, ap}
use Prim.Native.Nat.{◌+◌}
use native.Mathlib.Nat.{le_refl, le_trans}
use Rattle.root.specs.Rounded.{zero_f}
use Rattle.fdtd.specs.declared.rows.Side.{Side}
use Rattle.fdtd.specs.Axes.{previous_of, walled}
use Rattle.electric.proofs.Slopes.{across_slope, along_slope, walls, start_le, end_fits}
use Rattle.fdtd.proofs.Stands.{stands_across, stands_along, calm_across, calm_along, room_across, room_along, lower, mem_apart, thrice, row_fits, row_le}
use Rattle.electric.proofs.Edges.{fill_front}
use Rattle.electric.proofs.Component.{idle, moved, barred_right, right_free, change_fits}
use Rattle.electric.proofs.comp_t.Goals as goal

pub row-requires : goal.row-requires
row-requires c =
    let along = c.along-b in
    let across = c.across-c in
    let change-at = c.change_at-d in
    let a = c.args in
    let x = a.l.now in
    let g = x.g in
    let p = x.p in
    let f = c.requires in
    let ready = x.off_wall_run in
    let start = start_le g.r.wraps x.run.start ready.starts in
    let end = end_fits g.r.wraps g.r.n x.run.end ready.ends f.some in record {
      a_bound = (start, end.0, end.1, f.small);
      n_in_bounds = (row_fits g.t.at p.q g.r.n g.count _ f.ht x.own, change_fits x.w g.t.at p.q g.r.n g.count _ change-at.ensures x.dp_room.t x.own);
      side_room = (
        room_along g.r _ x.run _ _ along.ensures (row_fits g.s.at p.q g.r.n g.count _ f.es x.own) f.tr
            (row_fits g.t.mem p.q g.r.n g.count _ (lower g.t.mem g.count _ f.mt) x.own),
        room_across g.s _ _ _ _ _ _ _ across.ensures (row_fits g.r.at p.q g.r.n g.count _ f.er x.own)
            (row_fits g.r.at p.bs g.r.n g.count _ f.er x.ons)
            (thrice g.r.tab g.r.n _ _ f.tr (le_refl g.r.n)) (row_fits (g.t.mem + g.count) p.q g.r.n g.count _ f.mt x.own),
      );
      calm = (calm_along g.r _ x.run _ _ along.ensures ready.lull, calm_across g.s _ _ _ _ _ _ _ across.ensures (le_trans start end.0));
      n_bound = mem_apart g.t.mem p.q g.r.n g.count _ _ (ap (λ (s : Side). s.mem) along.ensures) (ap (λ (s : Side). s.mem) across.ensures) x.own;
    }

pub returns-then-walled_at : goal.returns-then-walled_at
returns-then-walled_at c =
    let pre = c.requires in
    let a = c.args in
    let x = a.l.now in
    let g = x.g in
    let p = x.p in
    idle g.t g.r g.s g.count x.h.now x.tab.now a.mem.now x.f.now x.poles.now a.e.now x.w p.q g.r.n
    (λ i. i) (λ i. p.s) (λ i. p.q + previous_of i g.r.n) (λ i. p.bs + i)
    (λ i. barred_right (walled g.r i) (walled g.s p.s) (sym c.walled_at.ensures ∙ c.if-walled_at.true))
    (fill_front a.e.now (g.t.at + p.q) g.r.n zero_f (row_fits g.t.at p.q g.r.n g.count _ pre.ht x.own) c.fill.ensures)

pub returns-else-walled_at : goal.returns-else-walled_at
returns-else-walled_at c =
    let pre = c.requires in
    let along = c.along-b in
    let across = c.across-c in
    let a = c.args in
    let x = a.l.now in
    let g = x.g in
    let p = x.p in
    let ready = x.off_wall_run in
    let start = start_le g.r.wraps x.run.start ready.starts in
    let end = end_fits g.r.wraps g.r.n x.run.end ready.ends pre.some in
    moved g.t g.r g.s g.count x.h.now x.tab.now a.mem.now x.f.now x.poles.now a.e.now x.w p.q g.r.n
    (λ i. i) (λ i. p.s) (λ i. p.q + previous_of i g.r.n) (λ i. p.bs + i) _ _ _ x.run.start x.run.end _ _
    (le_trans start end.0) end.1 (row_le p.q g.r.n _ x.own) c.change_at-d.ensures
    (λ i.
    stands_along g.r g.s _ _ _ p.q i x.run _ g.t.mem along.ensures
    (along_slope g.r g.s _ p.q i x.run _ along.ensures))
    (λ i.
    stands_across g.s g.r _ _ _ p.q i _ _ _ _ _ (g.t.mem + g.count) across.ensures
    (across_slope g.s g.r _ x.tab.now _ p.q i p.s x.run.start _ p.bs _ across.ensures))
    (λ i l. right_free (walled g.r i) (walled g.s p.s) (sym c.walled_at.ensures ∙ c.if-walled_at.false) ∙ walls g.r.wraps g.r.n i x.run.start x.run.end ready.starts ready.ends l)
    c.row.ensures.span c.row.ensures.two
