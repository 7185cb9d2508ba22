use Rattle.grid.proofs.Tests.{unless, met}
use Rattle.halves.proofs.Parts.{waves_h, still_h}
use Rattle.halves.proofs.wave_h.Goals as goal

pub returns-then-not-is_absent : goal.returns-then-not-is_absent
returns-then-not-is_absent c = let whole = waves_h _ _ _ _ _ (unless c.is_absent.ensures c.if-not-is_absent.true) c.update_line_h.ensures c.correct_h.ensures in
    record { aux_after = whole.0; h_after = whole.1 }

pub returns-else-not-is_absent : goal.returns-else-not-is_absent
returns-else-not-is_absent c = let whole = still_h _ _ _ _ _ (met c.is_absent.ensures c.if-not-is_absent.false) in
    record { aux_after = whole.0; h_after = whole.1 }
