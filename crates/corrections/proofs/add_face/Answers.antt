use Rattle.corrections.proofs.Faced.{is_there, not_there}
use Rattle.corrections.proofs.add_face.Goals as goal

pub returns-then-f : goal.returns-then-f
returns-then-f c = is_there _ _ _ _ _ _ c.if-f.true c.add_box.ensures

pub returns-else-f : goal.returns-else-f
returns-else-f c = not_there _ _ _ _ _ c.if-f.false
