use Rattle.materials.proofs.Placing.{assigned_are}
use Rattle.materials.proofs.put_material.Goals as goal

pub returns : goal.returns
returns c = assigned_are _ _ _ _ _ _ c.requires.0.places c.set_media.ensures c.fill_box.ensures
