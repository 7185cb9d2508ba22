-- Within a list the default does not matter; so a place of a material holds its pole, whatever stands past the end. Assumes nothing.
use Prim.Native.Nat.{ℕ, zero, suc, ◌<◌}
use native.Mathlib.Omega.{arith}
use mathlib.Core.Path.{◌≡◌, refl, ap}
use mathlib.Core.List.{List, [], ◌∷◌}
use lib.ListN.{length, get_or}
use Rattle.dispersion.specs.declared.DispersiveMaterial.{DispersiveMaterial}
use Rattle.dispersion.specs.declared.Pole.{Pole}
use Rattle.dispersion.specs.Material.{blank_slot, pole_in}

get_d_within : {A : Type 0} (l : List A) (i : ℕ) (d e : A) → i < length l → get_or l i d ≡ get_or l i e
get_d_within [] i d e h = absurd (omega arith)
get_d_within (x ∷ l) zero d e h = refl
get_d_within (x ∷ l) (suc i) d e h = get_d_within l i d e (omega arith)

pub pole_within : (m : DispersiveMaterial) (slot : ℕ) (d : Pole) → slot < length m.poles → get_or m.poles slot d ≡ pole_in m slot
pole_within m slot d h = get_d_within m.poles slot d blank_slot h
