use mathlib.Core.Path.{ap, ◌∙◌}
use Rattle.heads.specs.Numbers.{gh_shaped}
use Rattle.heads.specs.Payloads.{count_of}
use Rattle.block.proofs.Turns.{block_not, block_is}
use Rattle.block.proofs.is_record.Goals as goal

pub entries_fine-requires : goal.entries_fine-requires
entries_fine-requires c = (c.if-b-ne-BLOCK_LENGTH.false, ap count_of c.get_gh-n.ensures)

pub returns : goal.returns
returns c = block_is _ _ _ c.if-b-ne-BLOCK_LENGTH.false (c.gh_shaped.ensures ∙ ap gh_shaped c.get_gh-n.ensures) c.entries_fine.ensures

pub returns-then-b-ne-BLOCK_LENGTH : goal.returns-then-b-ne-BLOCK_LENGTH
returns-then-b-ne-BLOCK_LENGTH c = block_not _ c.if-b-ne-BLOCK_LENGTH.true
