-- That the statement is not empty: a line of four cells, opened, and the same with another eps_r in its last cell. Every premise is met for the first cell, for one step and for two, so
-- that neither its numbers nor the reading of its plane tell the two apart. Assumes nothing.
use Prim.Native.Nat.{ℕ, zero, suc, ◌≤◌, ◌<◌, max}
use native.Mathlib.Omega.{arith}
use mathlib.Core.Path.{◌≡◌, refl}
use mathlib.Core.Bool.{false}
use mathlib.Core.List.{List, [], ◌∷◌}
use lib.Ieee.{Float, of_bits}
use Rattle.root.specs.Rounded.{zero_f, one_f, two_f}
use Rattle.cells.specs.Cells.{cell_index}
use Rattle.grid.specs.declared.Record.{Record}
use Rattle.grid.specs.Fault.{side_fits, sides_fit, size_fits, spacings_fit, counts_fit, all_below, material_steps, material_fits, poles_fit, layer_fits, region_fits, study_fits, fault_of}
use Rattle.grid.specs.Vacuum.{eps_of, mu_of, light_of}
use Rattle.grid.specs.Stores.{Stores, stores, store_lengths, same_lengths, fault_lent}
use Rattle.opening.specs.Opening.{open_record, open_media, inactive, open_tables, open_stores}
use Rattle.fields.specs.Fields.{plane_of}
use Rattle.step.specs.Step.{fresh_ids, step_fault, step_call}
use Rattle.run.specs.Run.{run_call}
use Rattle.reach.specs.Reach.{places_apart, distance, SameNumbers, SameCell, SameWithin}
use Rattle.reach.proofs.Reached.{reached}

abbrev r : Record
r = open_record 1 1 4 0 (record { dx = one_f; dy = one_f; dz = one_f; dt = one_f }) 0

abbrev s : Stores
s = open_stores r

-- eps_r of the last cell is 2.0
abbrev t : Stores
t =
    stores s.electric s.magnetic (one_f ∷ one_f ∷ one_f ∷ two_f ∷ one_f ∷ one_f ∷ one_f ∷ one_f ∷ zero_f ∷ zero_f ∷ zero_f ∷ zero_f ∷ []) s.psi_e s.psi_h s.tables
    s.poles s.aux s.ids

abbrev two : List Float
two = zero_f ∷ zero_f ∷ []

-- the cell numbers of every other cell are equal
media_same : (k : ℕ) → k < 3 → SameNumbers r 3 k s.media t.media
unfolding open_stores open_media
media_same zero h zero l = refl
media_same zero h (suc zero) l = refl
media_same zero h (suc (suc zero)) l = refl
media_same zero h (suc (suc (suc c))) l = absurd (omega arith)
media_same (suc zero) h zero l = refl
media_same (suc zero) h (suc zero) l = refl
media_same (suc zero) h (suc (suc zero)) l = refl
media_same (suc zero) h (suc (suc (suc c))) l = absurd (omega arith)
media_same (suc (suc zero)) h zero l = refl
media_same (suc (suc zero)) h (suc zero) l = refl
media_same (suc (suc zero)) h (suc (suc zero)) l = refl
media_same (suc (suc zero)) h (suc (suc (suc c))) l = absurd (omega arith)
media_same (suc (suc (suc k))) h c l = absurd (omega arith)

cell_same : (m : ℕ) → m < 3 → SameCell r m s t
cell_same m h = record { media = media_same m h; id = refl; electric = λ c l. refl; magnetic = λ c l. refl; psi_e = λ c l. refl; psi_h = λ c l. refl; poles = λ c l. refl }

-- along z, whose ends are walls, the last cell is three cells away
third : (a b c n : ℕ) → max a (max b c) ≤ n → c ≤ n
third a b c n h = omega arith

along_z : (k' : ℕ) → places_apart false 4 0 k' ≤ 2 → k' < 3
unfolding places_apart
along_z k' h = omega arith

within_two : (i' j' k' : ℕ) → i' < 1 → j' < 1 → distance r 0 0 0 i' j' k' ≤ 2 → cell_index 1 1 i' j' k' < 3
unfolding distance
within_two i' j' k' a b d = let z = along_z k' (third (places_apart false 1 0 i') (places_apart false 1 0 j') (places_apart false 4 0 k') 2 d) in omega (arith, a, b, z)

same : SameWithin r 2 0 0 0 s t
same = record { tables = refl; aux = refl; near = λ i' j' k' a b c d. cell_same (cell_index 1 1 i' j' k') (within_two i' j' k' a b d) }

nearer : SameWithin r 1 0 0 0 s t
nearer = record { tables = refl; aux = refl; near = λ i' j' k' a b c d. same.near i' j' k' a b c (omega (arith, d)) }

taken_one : ((step_call (eps_of r) (mu_of r) (light_of r) r zero_f s).refusal ≡ 0) × ((step_call (eps_of r) (mu_of r) (light_of r) r zero_f t).refusal ≡ 0)
unfolding step_call step_fault fresh_ids fault_lent fault_of size_fits sides_fit side_fits spacings_fit study_fits counts_fit poles_fit material_fits material_steps all_below layer_fits region_fits store_lengths open_stores of_bits same_lengths open_media open_tables inactive
taken_one = (refl, refl)

pub after_one : SameCell r 0 (step_call (eps_of r) (mu_of r) (light_of r) r zero_f s).rest (step_call (eps_of r) (mu_of r) (light_of r) r zero_f t).rest
after_one =
    reached.steps (eps_of r) (mu_of r) (light_of r) r (zero_f ∷ []) s t 0 0 0 (omega arith) (omega arith) (omega arith) nearer (taken_one.0, tt) (taken_one.1, tt)

taken : ((run_call (eps_of r) (mu_of r) (light_of r) r two s).refusal ≡ 0) × ((run_call (eps_of r) (mu_of r) (light_of r) r two t).refusal ≡ 0)
unfolding run_call step_fault fresh_ids fault_lent fault_of size_fits sides_fit side_fits spacings_fit study_fits counts_fit poles_fit material_fits material_steps all_below layer_fits region_fits store_lengths open_stores of_bits same_lengths open_media open_tables inactive
taken = (refl, refl)

abbrev after_s : Stores
after_s = (run_call (eps_of r) (mu_of r) (light_of r) r two s).rest

abbrev after_t : Stores
after_t = (run_call (eps_of r) (mu_of r) (light_of r) r two t).rest

pub after_two : SameCell r 0 after_s after_t
after_two = reached.run (eps_of r) (mu_of r) (light_of r) r two s t 0 0 0 (omega arith) (omega arith) (omega arith) same taken.0 taken.1

only_cell : (i j : ℕ) → i < 1 → j < 1 → SameWithin r 2 i j 0 s t
only_cell zero zero a b = same
only_cell zero (suc j) a b = absurd (omega arith)
only_cell (suc i) j a b = absurd (omega arith)

pub read_after_two : plane_of r 0 after_s.electric after_s.magnetic ≡ plane_of r 0 after_t.electric after_t.magnetic
read_after_two = reached.reading (eps_of r) (mu_of r) (light_of r) r two s t 0 (omega arith) only_cell taken.0 taken.1
