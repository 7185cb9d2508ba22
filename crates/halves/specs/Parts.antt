-- The parts of a step that a study may lack: the wave's and the polarizations'. The order in which they are taken is `stepped` (step/specs/Step.antt). Definitions only.
use Rattle.std.specs.Prelude.{ℕ, cond, List, eqb, Float}
use Rattle.grid.specs.declared.Record.{Record}
use Rattle.grid.specs.Fault.{is_absent}
use Rattle.grid.specs.Stores.{line_length}
use Rattle.ade.specs.Polarization.{poles_after}
use Rattle.tfsf.specs.Line.{line_h, line_e}
use Rattle.tfsf.specs.Corrections.{correct_h, correct_e}

-- the wave's: x where there is a region, else y
abbrev pub waved : {A : Type 0} → Record → A → A → A
waved r x y = cond (is_absent r.region.kind) y x

unfoldable pub line_mid : (mu0 : Float) → Record → (aux : List Float) → List Float
line_mid mu0 r aux = waved r (line_h mu0 r.spacings (line_length r.nz) aux) aux

unfoldable pub corrected_h : (mu0 : Float) → Record → (media line h : List Float) → List Float
corrected_h mu0 r media line h = waved r (correct_h mu0 r media line h) h

unfoldable pub corrected_e : (eps0 : Float) → Record → (media line e : List Float) → List Float
corrected_e eps0 r media line e = waved r (correct_e eps0 r media line e) e

unfoldable pub line_end : (eps0 c0 : Float) → Record → (sample : Float) → (line : List Float) → List Float
line_end eps0 c0 r sample line = waved r (line_e eps0 c0 r.spacings (line_length r.nz) sample line) line

-- the polarizations': with dispersion off the pole store is left
unfoldable pub poles_stepped : (eps0 : Float) → Record → (ids : List ℕ) → (e poles : List Float) → List Float
poles_stepped eps0 r ids e poles = cond (eqb r.built_count 0) poles (poles_after eps0 r ids e poles)
