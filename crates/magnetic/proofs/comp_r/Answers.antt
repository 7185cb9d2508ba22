use mathlib.Core.Path.{ap}
use Prim.Native.Nat.{◌+◌, zero-le}
use native.Mathlib.Nat.{le_refl}
use native.Mathlib.Omega.{arith}
use Rattle.fdtd.specs.declared.rows.Side.{Side}
use Rattle.magnetic.proofs.Slopes.{across_slope}
use Rattle.fdtd.proofs.Stands.{stands_across, calm_across, room_across, lower, mem_apart, thrice, row_fits, row_le}
use Rattle.magnetic.proofs.Component.{idle, moved}
use Rattle.magnetic.proofs.comp_r.Goals as goal

pub row-requires : goal.row-requires
row-requires c =
    let across = c.across-b in
    let across2 = c.across-c in
    let a = c.args in
    let x = a.l.now in
    let g = x.g in
    let p = x.p in
    let f = c.requires in record {
      le_n = (f.some, f.small, le_refl g.r.n);
      n_in_bounds = (row_fits g.r.at p.q g.r.n g.count _ f.hr x.own, x.f_len);
      side_room = (
        room_across g.s _ _ _ _ _ _ _ across.ensures (row_fits g.t.at p.q g.r.n g.count _ f.et x.own)
            (row_fits g.t.at p.bs g.r.n g.count _ f.et x.ons)
            (thrice g.r.tab g.r.n _ _ f.tr (le_refl g.r.n)) (row_fits g.r.mem p.q g.r.n g.count _ (lower g.r.mem g.count _ f.mr) x.own),
        room_across g.t _ _ _ _ _ _ _ across2.ensures (row_fits g.s.at p.q g.r.n g.count _ f.es x.own)
            (row_fits g.s.at p.bt g.r.n g.count _ f.es x.ont)
            (thrice g.r.tab g.r.n _ _ f.tr (le_refl g.r.n)) (row_fits (g.r.mem + g.count) p.q g.r.n g.count _ f.mr x.own),
      );
      calm = (calm_across g.s _ _ _ _ _ _ _ across.ensures zero-le, calm_across g.t _ _ _ _ _ _ _ across2.ensures zero-le);
      n_bound = mem_apart g.r.mem p.q g.r.n g.count _ _ (ap (λ (s : Side). s.mem) across.ensures) (ap (λ (s : Side). s.mem) across2.ensures) x.own;
    }

pub returns-then-has_next : goal.returns-then-has_next
returns-then-has_next c =
    let across = c.across-b in
    let across2 = c.across-c in
    let a = c.args in
    let x = a.l.now in
    let g = x.g in
    let p = x.p in
    moved g.r g.s g.t g.count x.e.now x.tab.now a.mem.now x.f.now a.h.now p.q g.r.n
    (λ i. p.s) (λ i. p.t) (λ i. p.bs + i) (λ i. p.bt + i) _ _ g.r.n _ _
    (le_refl g.r.n) (row_le p.q g.r.n _ x.own)
    (λ i.
    stands_across g.s g.t _ _ _ p.q i _ _ _ _ _ g.r.mem across.ensures
    (across_slope g.s g.t _ x.tab.now _ p.q i p.s 0 _ p.bs _ across.ensures))
    (λ i.
    stands_across g.t g.s _ _ _ p.q i _ _ _ _ _ (g.r.mem + g.count) across2.ensures
    (across_slope g.t g.s _ x.tab.now _ p.q i p.t 0 _ p.bt _ across2.ensures))
    (λ i l. rw (← c.has_next.ensures, ← c.has_next-2.ensures) c.if-has_next.true)
    (λ i u l. absurd (omega arith)) c.row.ensures.span c.row.ensures.two

pub returns-else-has_next : goal.returns-else-has_next
returns-else-has_next c =
    let a = c.args in
    let x = a.l.now in
    let g = x.g in
    let p = x.p in
    idle g.r g.s g.t g.count x.e.now x.tab.now a.mem.now x.f.now a.h.now p.q g.r.n
    (λ i. p.s) (λ i. p.t) (λ i. p.bs + i) (λ i. p.bt + i) (λ i. rw (← c.has_next.ensures, ← c.has_next-2.ensures) c.if-has_next.false)
