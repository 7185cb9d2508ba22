-- Numbers of a cell by their place in a store, sums that grow by one number, and what a reading may lean on. Assumes nothing.
use Prim.Native.Nat.{ℕ, ◌+◌, ◌*◌, ◌≤◌, ◌<◌}
use native.Mathlib.Nat.{zero-mul, one-mul, mul_comm}
use native.Mathlib.Numerals.{add-one}
use native.Mathlib.Omega.{arith}
use mathlib.Core.Path.{◌≡◌, ap}
use mathlib.Core.Bool.{◌&&◌}
use mathlib.Core.List.{List}
use lib.Dec.{eqb, ltb}
use lib.ListN.{get_or}
use lib.Ieee.{Float, nan}
use borrow.Author.Tests.{eqb-true, ltb-true}
use Rattle.root.specs.Rounded.{◌⊕◌, summed}
use Rattle.grid.specs.declared.Record.{Record}
use Rattle.grid.specs.Inner.Sound.{Sound}
use Rattle.grid.specs.Stores.{cells, store_lengths, number_at}
use Rattle.grid.proofs.Tests.{and_left, and_right, first_none, or_none}
use Rattle.grid.proofs.Settled.{lent_none}
use Rattle.cells.specs.Reading.{block_end}
use Rattle.fields.specs.Fields.{energy_fault, plane_fault}

pub first_place : (s : List Float) (n m : ℕ) → get_or s m nan ≡ number_at s n 0 m
first_place s n m = let e : m ≡ 0 * n + m = omega (arith, zero-mul n) in ap (λ (p : ℕ). get_or s p nan) e

pub second_place : (s : List Float) (n m : ℕ) → get_or s (n + m) nan ≡ number_at s n 1 m
second_place s n m = let e : n + m ≡ 1 * n + m = omega (arith, one-mul n) in ap (λ (p : ℕ). get_or s p nan) e

pub sum_more : (n : ℕ) (f : ℕ → Float) (s : Float) → s ≡ summed n f → s ⊕ f n ≡ summed (n + 1) f
unfolding summed
sum_more n f s e = rw (add-one n, e)

-- ---- what is known where none of the first faults stands
pub record Read (r : Record) (electric magnetic media : ℕ) : Type 0 where
  pub sizes : Sound r
  pub e : electric ≡ 3 * cells r
  pub h : magnetic ≡ 3 * cells r
  pub m : media ≡ 3 * cells r

pub energy_none : (r : Record) (e h m : ℕ) → energy_fault r e h m ≡ 0 → Read r e h m
unfolding energy_fault store_lengths
energy_none r e h m f =
    let n = 3 * cells r in
    let l = lent_none r _ f in
    let two = and_left (eqb e n && eqb h n) (eqb m n) l.1 in
    record {
      sizes = l.0;
      e = eqb-true e n (and_left (eqb e n) (eqb h n) two);
      h = eqb-true h n (and_right (eqb e n) (eqb h n) two);
      m = eqb-true m n (and_right (eqb e n && eqb h n) (eqb m n) l.1);
    }

pub record Planar (r : Record) (k electric magnetic : ℕ) : Type 0 where
  pub sizes : Sound r
  pub e : electric ≡ 3 * cells r
  pub h : magnetic ≡ 3 * cells r
  pub there : k < r.nz

pub plane_none : (r : Record) (k e h : ℕ) → plane_fault r k e h ≡ 0 → Planar r k e h
unfolding plane_fault store_lengths
plane_none r k e h f =
    let n = 3 * cells r in
    let o = or_none _ _ f in
    let l = lent_none r _ o.0 in
    record {
      sizes = l.0;
      e = eqb-true e n (and_left (eqb e n) (eqb h n) l.1);
      h = eqb-true h n (and_right (eqb e n) (eqb h n) l.1);
      there = ltb-true k r.nz (first_none (ltb k r.nz) 16 0 o.1).0;
    }

-- plane k ends within the store
pub plane_in : (k n plane : ℕ) → k < n → k * plane + plane ≤ plane * n
plane_in k n plane h = let e = mul_comm plane n in omega (arith, e, block_end k n plane h)
