use Rattle.opening.proofs.Opened.{media_is}
use Rattle.opening.proofs.open_media.Goals as goal

pub returns : goal.returns
returns c = rw (c.fill-2.ensures, c.fill.ensures) (media_is _ _ c.requires)
