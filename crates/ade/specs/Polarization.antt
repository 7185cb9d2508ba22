-- The polarizations of the dispersive cells, one step on, by the auxiliary differential equation (Taflove and Hagness; dispersion.rs, `advance`). For S pole slots
-- the pole store has 6S + 3 numbers a cell: p by slot and component, p of the step before alike, and dp, the change of all of a component's p together. Definitions only.
use Rattle.std.specs.Prelude.{ℕ, ◌+◌, ◌-◌, ◌*◌, ◌/◌, ◌%◌, cond, List, ltb, eqb, get_or, Float}
use Rattle.root.specs.Rounded.{◌⊕◌, ◌⊖◌, ◌⊗◌, zero_f, summed}
use Rattle.dispersion.specs.declared.Pole.{Pole}
use Rattle.dispersion.specs.declared.AdeCoeffs.{AdeCoeffs}
use Rattle.dispersion.specs.Ade.{ade_coeffs}
use Rattle.dispersion.specs.Material.{pole_in}
use Rattle.cells.specs.Cells.{joined, row}
use Rattle.grid.specs.declared.Record.{Record}
use Rattle.grid.specs.Fault.{material_at, pole_count}
use Rattle.grid.specs.Stores.{number_at, cells}

-- P(n+1) = a1 P(n) + a2 P(n-1) + a3 E(n)
unfoldable pub polarized : AdeCoeffs → (p prev e : Float) → Float
polarized k p prev e = k.a1 ⊗ p ⊕ k.a2 ⊗ prev ⊕ k.a3 ⊗ e

abbrev pub pole_at : Record → (id slot : ℕ) → Pole
pole_at r id slot = pole_in (material_at r id) slot

module _ (eps0 : Float) (r : Record) (ids : List ℕ) (electric poles : List Float) where
  -- how many poles the material of the cell with the index m has; of material 0, vacuum, none (refusal 3 else)
  abbrev pub pole_count_at : ℕ → ℕ
  pole_count_at m = pole_count r (get_or ids m 0)

  -- component c of the slot's p in the cell m: P(n), P(n-1) and P(n+1)
  abbrev pub p_old : (slot c m : ℕ) → Float
  p_old slot c m = number_at poles (cells r) (3 * slot + c) m

  abbrev pub p_prev : (slot c m : ℕ) → Float
  p_prev slot c m = number_at poles (cells r) (3 * r.pole_slots + (3 * slot + c)) m

  unfoldable pub p_new : (slot c m : ℕ) → Float
  p_new slot c m =
      polarized (ade_coeffs eps0 r.spacings.dt (pole_at r (get_or ids m 0) slot)) (p_old slot c m) (p_prev slot c m) (number_at electric (cells r) c m)

  -- a slot that the cell's material does not count is untouched
  abbrev pub p_after : (slot c m : ℕ) → Float
  p_after slot c m = cond (ltb slot (pole_count_at m)) (p_new slot c m) (p_old slot c m)

  abbrev pub p_prev_after : (slot c m : ℕ) → Float
  p_prev_after slot c m = cond (ltb slot (pole_count_at m)) (p_old slot c m) (p_prev slot c m)

  unfoldable pub dp_after : (c m : ℕ) → Float
  dp_after c m = summed (pole_count_at m) (λ slot. p_new slot c m ⊖ p_old slot c m)

  -- number n of the cell m, of 6S + 3
  unfoldable pub pole_number : (n m : ℕ) → Float
  pole_number n m =
      let half = 3 * r.pole_slots in
      cond (ltb n half) (p_after (n / 3) (n % 3) m)
      (cond (ltb n (2 * half)) (p_prev_after ((n - half) / 3) ((n - half) % 3) m)
      (dp_after (n - 2 * half) m))

  unfoldable pub poles_after : List Float
  poles_after = joined (6 * r.pole_slots + 3) (λ n. row (cells r) (pole_number n))

-- what the electric half step takes for dp, from the store already moved on: 0.0 where dispersion is off
unfoldable pub delta_p : Record → (poles : List Float) → (c m : ℕ) → Float
delta_p r poles c m = cond (eqb r.built_count 0) zero_f (number_at poles (cells r) (6 * r.pole_slots + c) m)
