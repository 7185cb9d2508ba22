use native.Mathlib.Nat.{le_refl}
use mathlib.Core.Path.{◌∙◌, sym, ap}
use Prim.Native.Nat.{◌+◌, zero-le}
use Rattle.fdtd.specs.declared.rows.Side.{Side}
use Rattle.fdtd.specs.Axes.{next_of, has_next}
use Rattle.magnetic.proofs.Slopes.{reach_in, reach_out, reach_le, across_slope, along_slope}
use Rattle.fdtd.proofs.Stands.{stands_across, stands_along, calm_across, calm_along, room_across, room_along, lower, mem_apart, thrice, row_fits, row_le}
use Rattle.magnetic.proofs.Component.{idle, moved, and_true, and_left, and_right}
use Rattle.magnetic.proofs.comp_s.Goals as goal

pub row-requires : goal.row-requires
row-requires c =
    let across = c.across-b in
    let along = c.along-c in
    let a = c.args in
    let x = a.l.now in
    let g = x.g in
    let p = x.p in
    let f = c.requires in record {
      le_n = (f.some, f.small, reach_le g.r.wraps g.r.n x.run.end x.next_run.ends);
      n_in_bounds = (row_fits g.s.at p.q g.r.n g.count _ f.hs x.own, x.f_len);
      side_room = (
        room_across g.t _ _ _ _ _ _ _ across.ensures (row_fits g.r.at p.q g.r.n g.count _ f.er x.own)
            (row_fits g.r.at p.bt g.r.n g.count _ f.er x.ont)
            (thrice g.r.tab g.r.n _ _ f.tr (le_refl g.r.n)) (row_fits g.s.mem p.q g.r.n g.count _ (lower g.s.mem g.count _ f.ms) x.own),
        room_along g.r _ x.run _ _ along.ensures (row_fits g.t.at p.q g.r.n g.count _ f.et x.own) f.tr
            (row_fits (g.s.mem + g.count) p.q g.r.n g.count _ f.ms x.own),
      );
      calm = (calm_across g.t _ _ _ _ _ _ _ across.ensures zero-le, calm_along g.r _ x.run _ _ along.ensures x.next_run.lull);
      n_bound = mem_apart g.s.mem p.q g.r.n g.count _ _ (ap (λ (s : Side). s.mem) across.ensures) (ap (λ (s : Side). s.mem) along.ensures) x.own;
    }

pub returns-then-has_next : goal.returns-then-has_next
returns-then-has_next c =
    let across = c.across-b in
    let along = c.along-c in
    let a = c.args in
    let x = a.l.now in
    let g = x.g in
    let p = x.p in
    moved g.s g.t g.r g.count x.e.now x.tab.now a.mem.now x.f.now a.h.now p.q g.r.n
    (λ i. p.t) (λ i. i) (λ i. p.bt + i) (λ i. p.q + next_of i g.r.n) _ _ x.run.end _ _
    (reach_le g.r.wraps g.r.n x.run.end x.next_run.ends) (row_le p.q g.r.n _ x.own)
    (λ i.
    stands_across g.t g.r _ _ _ p.q i _ _ _ _ _ g.s.mem across.ensures
    (across_slope g.t g.r _ x.tab.now _ p.q i p.t 0 _ p.bt _ across.ensures))
    (λ i.
    stands_along g.r g.t _ _ _ p.q i x.run _ (g.s.mem + g.count) along.ensures
    (along_slope g.r g.t _ p.q i x.run _ along.ensures))
    (λ i l. and_true (has_next g.t p.t) (has_next g.r i) (sym c.has_next.ensures ∙ c.if-has_next.true) (reach_in g.r.wraps i g.r.n x.run.end x.next_run.ends l))
    (λ i u l. and_right (has_next g.t p.t) (has_next g.r i) (reach_out g.r.wraps i g.r.n x.run.end x.next_run.ends u l)) c.row.ensures.span c.row.ensures.two

pub returns-else-has_next : goal.returns-else-has_next
returns-else-has_next c =
    let a = c.args in
    let x = a.l.now in
    let g = x.g in
    let p = x.p in
    idle g.s g.t g.r g.count x.e.now x.tab.now a.mem.now x.f.now a.h.now p.q g.r.n
    (λ i. p.t) (λ i. i) (λ i. p.bt + i) (λ i. p.q + next_of i g.r.n) (λ i. and_left (has_next g.t p.t) (has_next g.r i) (sym c.has_next.ensures ∙ c.if-has_next.false))
