use Rattle.materials.proofs.Placing.{media_set_lem}
use Rattle.materials.proofs.set_media.Goals as goal

pub returns : goal.returns
returns c = rw (c.fill_box-3.ensures, c.fill_box-2.ensures, c.fill_box.ensures) (media_set_lem _ _ _ _ _ _ _ _ c.requires.2)
