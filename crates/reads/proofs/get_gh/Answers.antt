use Rattle.reads.proofs.Read.{head_whole}
use Rattle.reads.proofs.get_gh.Goals as goal

pub returns : goal.returns
returns c = let a = c.args in head_whole a.s.now a.at _ _ c.head_with.ensures c.byte_at-constants.ensures
