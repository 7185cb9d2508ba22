-- A material: what it answers at once, and its poles. Definitions only.
use Rattle.std.specs.Prelude.{ℕ, ◌+◌, cond, ltb, replicate, set, get_or, Float}
use Rattle.root.specs.Rounded.{zero_f, one_f}
use Rattle.dispersion.specs.declared.DispersiveMaterial.{DispersiveMaterial}
use Rattle.dispersion.specs.declared.Pole.{Pole}
use Rattle.dispersion.specs.declared.Pole.TheVariants.{Debye}

-- what stands in a place that no pole is counted in
abbrev pub blank_slot : Pole
blank_slot = Debye zero_f zero_f

-- the pole in a place
abbrev pub pole_in : DispersiveMaterial → (slot : ℕ) → Pole
pole_in m slot = get_or m.poles slot blank_slot

-- no poles, no loss, not magnetic
abbrev pub plain : Float → DispersiveMaterial
plain eps = record { eps_inf = eps; sigma = zero_f; mu_r = one_f; pole_count = 0; poles = replicate 4 blank_slot }

abbrev pub vacuum_material : DispersiveMaterial
vacuum_material = plain one_f

-- one pole more; a fifth is counted and has no place, so that no material with it is taken
unfoldable pub pushed : DispersiveMaterial → Pole → DispersiveMaterial
pushed m p =
    let n = m.pole_count in
    record {
      eps_inf = m.eps_inf;
      sigma = m.sigma;
      mu_r = m.mu_r;
      pole_count = cond (ltb n 4) (n + 1) 5;
      poles = cond (ltb n 4) (set m.poles n p) m.poles;
    }

unfoldable pub one_pole : Float → Pole → DispersiveMaterial
one_pole eps p = pushed (plain eps) p

abbrev pub conducting : DispersiveMaterial → Float → DispersiveMaterial
conducting m s = record { eps_inf = m.eps_inf; sigma = s; mu_r = m.mu_r; pole_count = m.pole_count; poles = m.poles }
