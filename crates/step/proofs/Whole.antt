-- The whole step from its two halves. Assumes nothing.
use Prim.Native.Nat.{ℕ}
use mathlib.Core.Path.{◌≡◌}
use mathlib.Core.List.{List}
use lib.Ieee.{Float}
use Rattle.grid.specs.declared.Record.{Record}
use Rattle.grid.specs.Stores.{stores}
use Rattle.ade.specs.Polarization.{delta_p}
use Rattle.fdtd.specs.Halves.{half_h, psi_after, magnetic_after, half_e, electric_after}
use Rattle.step.specs.Step.{line_mid, corrected_h, corrected_e, line_end, poles_stepped, stepped}

module _ (eps0 mu0 c0 : Float) (r : Record) (sample : Float) (e h media psi_e psi_h tables poles aux : List Float) (ids : List ℕ) {a1 h1 q1 p1 e1 m1 a2 : List Float} where
  pub stepped_is : a1 ≡ line_mid mu0 r aux → h1 ≡ corrected_h mu0 r media (line_mid mu0 r aux) (magnetic_after mu0 r e media tables psi_h h)
      → q1 ≡ psi_after half_h r e tables psi_h → p1 ≡ poles_stepped eps0 r ids e poles
      → e1 ≡ corrected_e eps0 r media a1 (electric_after eps0 r h1 media tables (delta_p r (poles_stepped eps0 r ids e poles)) psi_e e)
      → m1 ≡ psi_after half_e r h1 tables psi_e → a2 ≡ line_end eps0 c0 r sample a1
      → stores e1 h1 media m1 q1 tables p1 a2 ids ≡ stepped eps0 mu0 c0 r sample (stores e h media psi_e psi_h tables poles aux ids)
  unfolding stepped
  stepped_is ea eh eq ep ee em el = rw (el, em, ee, ep, eq, eh, ea)
