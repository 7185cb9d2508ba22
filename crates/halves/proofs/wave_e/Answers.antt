use Rattle.grid.proofs.Tests.{unless, met}
use Rattle.halves.proofs.Parts.{waves_e, still_e}
use Rattle.halves.proofs.wave_e.Goals as goal

pub returns-then-not-is_absent : goal.returns-then-not-is_absent
returns-then-not-is_absent c = let whole = waves_e _ _ _ _ _ _ _ (unless c.is_absent.ensures c.if-not-is_absent.true) c.update_line_e.ensures c.correct_e.ensures in
    record { aux_after = whole.0; e_after = whole.1 }

pub returns-else-not-is_absent : goal.returns-else-not-is_absent
returns-else-not-is_absent c = let whole = still_e _ _ _ _ _ _ _ (met c.is_absent.ensures c.if-not-is_absent.false) in
    record { aux_after = whole.0; e_after = whole.1 }
