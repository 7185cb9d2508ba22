use Rattle.study.proofs.Entries.{cichowiej_plane_reading}
use Rattle.calls.proofs.Kept.{readout_as}
use Rattle.api.proofs.readings.cichowiej_plane_reading.Goals as goal

pub returns : goal.returns
returns c = let e = readout_as c.code_of.ensures c.plane_reading.ensures in record { reading_after = e; honest = cichowiej_plane_reading _ _ _ _ _ _ _ e }
