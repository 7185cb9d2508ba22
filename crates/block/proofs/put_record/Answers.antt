use Rattle.block.proofs.Turns.{block_put}
use Rattle.block.proofs.put_record.Goals as goal

pub returns : goal.returns
returns c = block_put _ _ _ _ c.requires c.put_gh.ensures c.put_entries.ensures
