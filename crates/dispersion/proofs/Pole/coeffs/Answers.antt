use mathlib.Core.Path.{◌∙◌}
use Rattle.dispersion.specs.Ade.{ade_coeffs, first_order}
use Rattle.dispersion.proofs.Pole.coeffs.Goals as goal

pub returns-in-Lorentz : goal.returns-in-Lorentz
unfolding ade_coeffs
returns-in-Lorentz c = c.second_order_coeffs.ensures ∙ rw c.in-Lorentz.is

pub returns-in-Drude : goal.returns-in-Drude
unfolding ade_coeffs
returns-in-Drude c = c.second_order_coeffs-in-Drude.ensures ∙ rw c.in-Drude.is

pub returns-in-Debye : goal.returns-in-Debye
unfolding ade_coeffs first_order
returns-in-Debye c = rw c.in-Debye.is
