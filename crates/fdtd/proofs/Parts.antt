-- One component of a store while rows of several are filled in turn: a row more of it, and a store outside it. Assumes nothing.
use mathlib.Core.Path.{◌≡◌, refl, ◌∙◌, ap}
use mathlib.Core.Logic.{⊎_elim}
use mathlib.Core.List.{List}
use Prim.Native.Nat.{ℕ, ◌+◌, ◌*◌, ◌≤◌, ◌<◌}
use native.Mathlib.Nat.{eq-or-lt_of_le, not-suc-le-zero}
use native.Mathlib.Omega.{arith}
use lib.ListN.{get_or}
use lib.Ieee.{Float, nan}
use Rattle.fdtd.specs.Inner.Turns.{Part}
use Rattle.fdtd.proofs.Places.{row_more, row_apart, row_one}

module _ (nx ny count : ℕ) (f : ℕ → ℕ → ℕ → Float) (lo : ℕ) (old : List Float) where
  pub part_start : Part nx ny count f lo old 0 old
  part_start = record { at = λ j k i hi hj h. absurd (not-suc-le-zero h); rest = λ q h l. refl }

  module _ (nz : ℕ) (whole : count ≡ nz * ny * nx) (new next : List Float) where
    -- nothing of this component was stored
    pub part_keep : (r : ℕ) → Part nx ny count f lo old r new → r ≤ nz * ny → ((q : ℕ) → lo ≤ q → q < lo + count → get_or next q nan ≡ get_or new q nan) → Part nx ny count f lo old r next
    part_keep r w h same =
        record {
          at = λ j k i hi hj l.
              let p : j + k * ny < nz * ny = omega arith in
              same (lo + (j + k * ny) * nx + i) (omega arith) (omega (arith, row_apart nx p)) ∙ w.at j k i hi hj l;
          rest = λ q l u. same q (omega arith) u ∙ w.rest q l u;
        }

    -- row (j, k) of it was
    module _ (j k : ℕ) (w : Part nx ny count f lo old (j + k * ny) new) (hj : j < ny) (hk : k < nz)
        (before : (q : ℕ) → lo ≤ q → q < lo + (j + k * ny) * nx → get_or next q nan ≡ get_or new q nan)
        (own : (i : ℕ) → i < nx → get_or next (lo + (j + k * ny) * nx + i) nan ≡ f j k i)
        (after : (q : ℕ) → lo + (j + k * ny) * nx + nx ≤ q → q < lo + count → get_or next q nan ≡ get_or new q nan) where
      earlier : (j' k' i : ℕ) → i < nx → j' < ny → j' + k' * ny < j + k * ny → get_or next (lo + (j' + k' * ny) * nx + i) nan ≡ f j' k' i
      earlier j' k' i hi hj' l = before (lo + (j' + k' * ny) * nx + i) (omega arith) (omega (arith, row_apart nx l)) ∙ w.at j' k' i hi hj' l

      this : (j' k' i : ℕ) → i < nx → j' < ny → j' + k' * ny ≡ j + k * ny → get_or next (lo + (j' + k' * ny) * nx + i) nan ≡ f j' k' i
      this j' k' i hi hj' e =
          let ek : k' ≡ k = row_one hj' hj e in
          let ej : j' ≡ j = omega (arith, ap (λ (x : ℕ). x * ny) ek) in
          rw (ej, ek) (own i hi)

      pub part_step : Part nx ny count f lo old (j + 1 + k * ny) next
      part_step =
          record {
            at = λ j' k' i hi hj' h. ⊎_elim (λ e. this j' k' i hi hj' e) (λ l. earlier j' k' i hi hj' l) (eq-or-lt_of_le (omega arith));
            rest = λ q h u.
                let m : (j + 1 + k * ny) * nx ≡ (j + k * ny) * nx + nx = ap (λ (x : ℕ). x * nx) (omega arith) ∙ row_more (j + k * ny) nx in
                after q (omega arith) u ∙ w.rest q (omega arith) u;
          }
