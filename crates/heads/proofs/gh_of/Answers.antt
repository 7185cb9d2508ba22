use Rattle.heads.proofs.Flat.{head_is}
use Rattle.heads.proofs.gh_of.Goals as goal

pub returns : goal.returns
returns c = let a = c.args in head_is _ _ _ _ _ _ _ _ c.float_of.ensures c.float_of-2.ensures c.float_of-3.ensures c.float_of-4.ensures c.kind_of.ensures c.float_of-5.ensures
