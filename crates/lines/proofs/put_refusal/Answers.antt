use Rattle.lines.specs.Listing.{line, refused_line}
use Rattle.lines.proofs.Written.{wrote_then}
use Rattle.lines.proofs.put_refusal.Goals as goal

pub returns : goal.returns
unfolding refused_line line
returns c = rw (← c.number.ensures) (wrote_then c.put_word.ensures c.put_number.ensures)
