use Rattle.study.proofs.Holding.{held_more, held_none}
use Rattle.study.proofs.Entries.{cichowiej_open}
use Rattle.calls.proofs.Kept.{sent_as}
use Rattle.api.proofs.studies.cichowiej_open.Goals as goal

pub returns : goal.returns
returns c = let e = sent_as c.code_of.ensures c.«open».ensures in record { ids_after = e; honest = cichowiej_open _ _ _ _ _ _ (held_more _ _ c.well_formed.1.1.1.1.1.1.0.1 (held_more _ _ c.well_formed.1.1.1.1.1.1.1.0.1 (held_more _ _ c.well_formed.1.1.1.1.1.1.1.1.0.1 (held_more _ _ c.well_formed.1.1.1.1.1.1.1.1.1.0.1 held_none)))) e }
