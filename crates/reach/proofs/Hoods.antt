-- The cells near a named one, axis by axis, and what two stores share there. Assumes nothing.
use Prim.Native.Nat.{ℕ, zero, suc, ◌+◌, ◌≤◌, ◌<◌}
use native.Mathlib.Omega.{arith}
use mathlib.Core.Path.{◌≡◌, refl, subst}
use mathlib.Core.Bool.{true, false}
use mathlib.Core.List.{List}
use lib.Ieee.{Float}
use Rattle.cells.specs.Cells.{cell_index}
use Rattle.grid.specs.declared.Record.{Record}
use Rattle.grid.specs.Stores.{number_at, cells}
use Rattle.fdtd.specs.Axes.{axis, place, next_of, previous_of, next_cell, previous_cell, has_next, walled}
use Rattle.fdtd.proofs.Fits.{next_less, previous_less}
use Rattle.reach.proofs.Near.{Near, near_next, near_previous, near_wider}

pub record Cell : Type 0 where
  pub i : ℕ
  pub j : ℕ
  pub k : ℕ

abbrev pub cell_at : (i j k : ℕ) → Cell
cell_at i j k = record { i = i; j = j; k = k }

abbrev pub index : Record → Cell → ℕ
index r p = cell_index r.nx r.ny p.i p.j p.k

-- its place on the axis b
abbrev pub on : ℕ → Cell → ℕ
on b p = place b p.i p.j p.k

-- p is a cell of the grid whose place on each axis lies at most lo below that of o and at most hi above it
abbrev pub Hood : Record → (o : Cell) → (lo hi : ℕ) → Cell → Type 0
Hood r o lo hi p = (b : ℕ) → (on b p < (axis r 0 b).n) × Near (axis r 0 b).wraps (axis r 0 b).n lo hi (on b o) (on b p)

pub wider : (r : Record) (o : Cell) (lo hi lo' hi' : ℕ) (p : Cell) → lo ≤ lo' → hi ≤ hi' → Hood r o lo hi p → Hood r o lo' hi' p
wider r o lo hi lo' hi' p a b h c = ((h c).0, near_wider (axis r 0 c).wraps (axis r 0 c).n lo hi lo' hi' (on c o) (on c p) a b (h c).1)

-- n numbers of each such cell are equal
abbrev pub Same : Record → (o : Cell) → (lo hi n : ℕ) → (f g : List Float) → Type 0
Same r o lo hi n f g = (c : ℕ) → c < n → (p : Cell) → Hood r o lo hi p → number_at f (cells r) c (index r p) ≡ number_at g (cells r) c (index r p)

pub narrower : (r : Record) (o : Cell) (lo hi lo' hi' n : ℕ) (f g : List Float) → lo ≤ lo' → hi ≤ hi' → Same r o lo' hi' n f g → Same r o lo hi n f g
narrower r o lo hi lo' hi' n f g a b s c l p h = s c l p (wider r o lo hi lo' hi' p a b h)

-- ---- a cell moved along the axis b
abbrev moved : Record → (to : ℕ → ℕ → ℕ) → (b : ℕ) → Cell → Cell
moved r to zero p = cell_at (to p.i r.nx) p.j p.k
moved r to (suc zero) p = cell_at p.i (to p.j r.ny) p.k
moved r to (suc (suc b)) p = cell_at p.i p.j (to p.k r.nz)

-- it is near by the bounds lo' and hi' if the place that it moves to is
module _ (r : Record) (o : Cell) (lo' hi' : ℕ) (p : Cell) (to : ℕ → ℕ → ℕ) (less : (q n : ℕ) → q < n → to q n < n) (w : Hood r o lo' hi' p) where
  hood_moved : (b : ℕ) → Near (axis r 0 b).wraps (axis r 0 b).n lo' hi' (on b o) (to (on b p) (axis r 0 b).n) → Hood r o lo' hi' (moved r to b p)
  hood_moved zero q zero = (less p.i r.nx (w 0).0, q)
  hood_moved zero q (suc zero) = w 1
  hood_moved zero q (suc (suc c)) = w 2
  hood_moved (suc zero) q zero = w 0
  hood_moved (suc zero) q (suc zero) = (less p.j r.ny (w 1).0, q)
  hood_moved (suc zero) q (suc (suc c)) = w 2
  hood_moved (suc (suc b)) q zero = w 0
  hood_moved (suc (suc b)) q (suc zero) = w 1
  hood_moved (suc (suc b)) q (suc (suc c)) = (less p.k r.nz (w 2).0, q)

next_is : (r : Record) (p : Cell) (b : ℕ) → index r (moved r next_of b p) ≡ next_cell r b p.i p.j p.k
next_is r p zero = refl
next_is r p (suc zero) = refl
next_is r p (suc (suc b)) = refl

previous_is : (r : Record) (p : Cell) (b : ℕ) → index r (moved r previous_of b p) ≡ previous_cell r b p.i p.j p.k
previous_is r p zero = refl
previous_is r p (suc zero) = refl
previous_is r p (suc (suc b)) = refl

-- an axis's tables are no matter here
has_next_lem : (r : Record) (from b q : ℕ) → has_next (axis r from b) q ≡ true → has_next (axis r 0 b) q ≡ true
has_next_lem r from zero q e = e
has_next_lem r from (suc zero) q e = e
has_next_lem r from (suc (suc b)) q e = e

-- ---- the cell after one costs the upper bound one, the cell before it the lower one
module _ (r : Record) (o : Cell) (inside : Hood r o 0 0 o) (lo hi : ℕ) (p : Cell) (h : Hood r o lo hi p) (f g : List Float) (n : ℕ) where
  pub next_same : Same r o lo (hi + 1) n f g → (from b : ℕ) → has_next (axis r from b) (on b p) ≡ true → (c : ℕ) → c < n →
      number_at f (cells r) c (next_cell r b p.i p.j p.k) ≡ number_at g (cells r) c (next_cell r b p.i p.j p.k)
  next_same s from b e c l =
      subst (λ (m : ℕ). number_at f (cells r) c m ≡ number_at g (cells r) c m) (next_is r p b)
      (s c l (moved r next_of b p) (hood_moved r o lo (hi + 1) p next_of next_less (wider r o lo hi lo (hi + 1) p (omega arith) (omega arith) h) b
      (near_next (axis r 0 b).wraps (axis r 0 b).n lo hi (on b o) (on b p) (h b).0 (inside b).0 (h b).1 (has_next_lem r from b (on b p) e))))

  pub previous_same : Same r o (lo + 1) hi n f g → (b : ℕ) → walled (axis r 0 b) (on b p) ≡ false → (c : ℕ) → c < n →
      number_at f (cells r) c (previous_cell r b p.i p.j p.k) ≡ number_at g (cells r) c (previous_cell r b p.i p.j p.k)
  previous_same s b e c l =
      subst (λ (m : ℕ). number_at f (cells r) c m ≡ number_at g (cells r) c m) (previous_is r p b)
      (s c l (moved r previous_of b p) (hood_moved r o (lo + 1) hi p previous_of previous_less (wider r o lo hi (lo + 1) hi p (omega arith) (omega arith) h) b
      (near_previous (axis r 0 b).wraps (axis r 0 b).n lo hi (on b o) (on b p) (h b).0 (inside b).0 (h b).1 e)))
