use Rattle.std.proofs.Common.{ap}
use Rattle.grid.specs.Stores.{stores, store_lengths}
use Rattle.opening.proofs.Opened.{opened_are}
use Rattle.opening.proofs.open_stores.Goals as goal

pub open_media-requires : goal.open_media-requires
unfolding store_lengths
open_media-requires c = ap (λ l. l.media) c.requires.1

pub open_tables-requires : goal.open_tables-requires
unfolding store_lengths
open_tables-requires c = ap (λ l. l.tables) c.requires.1

pub returns : goal.returns
returns c =
    let a = c.args in
    opened_are a.r (stores a.e.now a.h.now a.media.now a.psi_e.now a.psi_h.now a.tables.now a.poles.now a.aux.now a.ids.now)
    _ _ _ _ _ _ _ _ _ c.requires.1
    (c.fill.ensures.after (λ y h. h))
    (c.fill-2.ensures.after (λ y h. h))
    c.open_media.ensures
    (c.fill-3.ensures.after (λ y h. h))
    (c.fill-4.ensures.after (λ y h. h))
    c.open_tables.ensures
    (c.fill-5.ensures.after (λ y h. h))
    (c.fill-6.ensures.after (λ y h. h))
    (c.fill-7.ensures.after (λ y h. h))
