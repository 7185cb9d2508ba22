use Rattle.study.proofs.Entries.{cichowiej_total_energy}
use Rattle.calls.proofs.Kept.{readout_as}
use Rattle.api.proofs.readings.cichowiej_total_energy.Goals as goal

pub returns : goal.returns
returns c = let e = readout_as c.code_of.ensures c.total_energy.ensures in record { energy_after = e; honest = cichowiej_total_energy _ _ _ _ _ _ _ e }
