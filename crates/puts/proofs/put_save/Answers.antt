use Rattle.grid.specs.Stores.{stores}
use Rattle.puts.proofs.Placed.{whole_put}
use Rattle.puts.proofs.put_save.Goals as goal

pub returns : goal.returns
returns c =
    let a = c.args in
    whole_put a.r (stores a.e.now a.h.now a.media.now a.psi_e.now a.psi_h.now a.tables.now a.poles.now a.aux.now a.ids.now)
    _ _ _ _ _ _ _ _ _ c.requires c.put_head.ensures c.put_materials-p.ensures c.put_cells-q.ensures c.put_layer-s.ensures c.put_ends.ensures
