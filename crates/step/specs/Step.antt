-- One step of a study, in the order of `Tfsf::step`: the line's H, H, its corrections, the polarizations, E, its corrections, the line's E, the clock.
-- Without a region the line and the sample go unused. The two half steps are in fdtd/specs/Halves.antt, the parts that a study may lack (`line_mid`, `corrected_h`,
-- `poles_stepped`, `corrected_e`, `line_end`) in halves/specs/Parts.antt, the refusals and the clock after a step (`step_fault`, `ticked`) in due/specs/Due.antt; both files' names
-- are passed on here. Definitions only.
use Rattle.std.specs.Prelude.{Float}
use Rattle.grid.specs.declared.Record.{Record}
use Rattle.grid.specs.Stores.{Stores, stores, lengths_of, Outcome, settle}
use Rattle.ade.specs.Polarization.{delta_p}
use Rattle.fdtd.specs.Halves.{half_h, psi_after, magnetic_after, half_e, electric_after}
pub use Rattle.due.specs.Due.{stale_material, spent_clock, last_step, ticked}
unfoldable pub use Rattle.due.specs.Due.{fresh_ids, step_fault}
pub use Rattle.halves.specs.Parts.{waved}
unfoldable pub use Rattle.halves.specs.Parts.{line_mid, corrected_h, corrected_e, line_end, poles_stepped}

-- ---- the stores after a step: E at n and H at n - 1/2 become E at n + 1 and H at n + 1/2. line then has ex at n and hy at n + 1/2; the sample is what the source gives
-- at n + 1. Both parts of a half step take the old memories: the ψ in the field's curl is the one that psi_after stores
unfoldable pub stepped : (eps0 mu0 c0 : Float) → Record → (sample : Float) → Stores → Stores
stepped eps0 mu0 c0 r sample s =
    let line = line_mid mu0 r s.aux in
    let h = corrected_h mu0 r s.media line (magnetic_after mu0 r s.electric s.media s.tables s.psi_h s.magnetic) in
    let psi_h = psi_after half_h r s.electric s.tables s.psi_h in
    let poles = poles_stepped eps0 r s.ids s.electric s.poles in
    let e = corrected_e eps0 r s.media line (electric_after eps0 r h s.media s.tables (delta_p r poles) s.psi_e s.electric) in
    let psi_e = psi_after half_e r h s.tables s.psi_e in
    stores e h s.media psi_e psi_h s.tables poles (line_end eps0 c0 r sample line) s.ids

-- ---- the call
unfoldable pub step_call : (eps0 mu0 c0 : Float) → Record → (sample : Float) → Stores → Outcome Stores
step_call eps0 mu0 c0 r sample s = settle (step_fault r (lengths_of s) s.ids 1) r s (ticked r) (stepped eps0 mu0 c0 r sample s)
