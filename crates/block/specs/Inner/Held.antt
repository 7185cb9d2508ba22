-- What every record that code holds meets, and a record without fault leaves open: arrays of their lengths, floats that 64 bits hold, steps that 32 bits hold.
-- Definitions only.
use Rattle.std.specs.Prelude.{ℕ, ◌<◌, ◌≡◌, Bool, ◌&&◌, T, length, get_or, Float}
use Rattle.std.specs.Float.{binary64}
use Rattle.std.specs.Float.Ieee.{fits}
use Rattle.dispersion.specs.declared.Pole.{Pole}
use Rattle.dispersion.specs.declared.Pole.TheVariants.{Lorentz, Drude, Debye}
use Rattle.dispersion.specs.declared.DispersiveMaterial.{DispersiveMaterial}
use Rattle.dispersion.specs.Material.{blank_slot}
use Rattle.grid.specs.declared.Record.{Record}
use Rattle.grid.specs.Fault.{beyond}

abbrev pub held : Float → Bool
held x = fits binary64 x

abbrev pub pole_held : Pole → Bool
pole_held (Lorentz d w g) = held d && held w && held g
pole_held (Drude w g) = held w && held g
pole_held (Debye d t) = held d && held t

pub record MaterialHeld (m : DispersiveMaterial) : Type 0 where
  pub eps : T (held m.eps_inf)
  pub loss : T (held m.sigma)
  pub mu : T (held m.mu_r)
  pub four : length m.poles ≡ 4
  pub each : (i : ℕ) → i < 4 → T (pole_held (get_or m.poles i blank_slot))

pub record Held (r : Record) : Type 0 where
  pub walls : (length r.periodic ≡ 3) × (length r.active ≡ 3)
  pub x : T (held r.spacings.dx)
  pub y : T (held r.spacings.dy)
  pub z : T (held r.spacings.dz)
  pub t : T (held r.spacings.dt)
  pub time : T (held r.clock.time)
  pub steps : r.clock.steps < 4294967296
  pub sixteen : length r.materials ≡ 16
  pub each : (i : ℕ) → i < 16 → MaterialHeld (get_or r.materials i beyond)
