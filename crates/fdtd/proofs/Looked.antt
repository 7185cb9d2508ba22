-- The memories by their names: what the lookup by `Psi` gives is the memory that a half step reads and moves on for the derivative, and the component, that
-- the name says. Assumes nothing.
use Prim.Native.Nat.{ℕ, ◌+◌, ◌*◌, ◌/◌, ◌%◌, ◌<◌}
use native.Mathlib.Nat.{mul_comm}
use native.Mathlib.Omega.{arith}
use mathlib.Core.Path.{◌≡◌, refl, ap, ◌∙◌}
use mathlib.Core.Bool.{Bool, cond}
use mathlib.Core.List.{List}
use lib.Dec.{eqb}
use lib.Ieee.{Float}
use Rattle.codec.specs.Lists.{part}
use Rattle.cells.specs.Cells.{cellwise, components}
use Rattle.cells.specs.Reading.{length_cellwise}
use Rattle.cells.proofs.Blocks.{part_block}
use Rattle.grid.specs.declared.Record.{Record}
use Rattle.grid.specs.Stores.{cells}
use Rattle.cpml.specs.declared.Psi.{Psi}
use Rattle.cpml.specs.declared.Psi.TheVariants.{Exy, Exz, Eyz, Eyx, Ezx, Ezy, Hxy, Hxz, Hyz, Hyx, Hzx, Hzy}
use Rattle.cpml.specs.Memory.{place_of, component_of, along_of, memory_of}
use Rattle.fdtd.specs.Axes.{turn, axis}
use Rattle.fdtd.specs.Halves.{Half, half_h, half_e, first_after, second_after, psi_after}

-- whether the derivative along v is the first of component a, or its second
abbrev pub is_first : (a v : ℕ) → Bool
is_first a v = eqb v (turn a)

-- the memory of the derivative along v of the component a after a half step, in one cell
abbrev pub named_after : Half → Record → (field tables mem : List Float) → (a v i j k : ℕ) → Float
named_after w r field tables mem a v i j k = cond (is_first a v) (first_after w r field tables mem a i j k) (second_after w r field tables mem a i j k)

-- v is one of the two axes across a: the first is the next one round, the second the one after it
pub two_derivatives : (which : Psi) → along_of which ≡ cond (is_first (component_of which) (along_of which)) (turn (component_of which)) (turn (turn (component_of which)))
two_derivatives Exy = refl
two_derivatives Exz = refl
two_derivatives Eyz = refl
two_derivatives Eyx = refl
two_derivatives Ezx = refl
two_derivatives Ezy = refl
two_derivatives Hxy = refl
two_derivatives Hxz = refl
two_derivatives Hyz = refl
two_derivatives Hyx = refl
two_derivatives Hzx = refl
two_derivatives Hzy = refl

cells_are : (r : Record) → r.nz * (r.ny * r.nx) ≡ cells r
cells_are r = mul_comm r.nz (r.ny * r.nx) ∙ ap (λ (n : ℕ). n * r.nz) (mul_comm r.ny r.nx)

-- the m-th part of the memories after a half step, for any m
module _ (w : Half) (r : Record) (field tables mem : List Float) where
  number : (m : ℕ) → m < 6 → part (psi_after w r field tables mem) (m * cells r) (cells r) ≡
      cellwise r.nx r.ny r.nz (λ i j k. cond (eqb (m % 2) 0) (first_after w r field tables mem (m / 2) i j k) (second_after w r field tables mem (m / 2) i j k))
  unfolding psi_after components
  number m h =
      let g : ℕ → List Float = λ c. cellwise r.nx r.ny r.nz (λ i j k. cond (eqb (c % 2) 0) (first_after w r field tables mem (c / 2) i j k) (second_after w r field tables mem (c / 2) i j k)) in
      part_block 6 m (cells r) g h (λ c _. length_cellwise r.nx r.ny r.nz _ ∙ cells_are r)

-- what the lookup gives of the stores after a step's two half steps: E moves by h, H by e
module _ (r : Record) (e h tables psi_e psi_h : List Float) where
  abbrev of_e : (a v i j k : ℕ) → Float
  of_e = named_after half_e r h tables psi_e

  abbrev of_h : (a v i j k : ℕ) → Float
  of_h = named_after half_h r e tables psi_h

  abbrev LookedUp : Psi → Type 0
  LookedUp which =
      memory_of which (psi_after half_e r h tables psi_e) (psi_after half_h r e tables psi_h) (cells r) ≡
      cellwise r.nx r.ny r.nz (cond (place_of which).electric of_e of_h (component_of which) (along_of which))

  pub looked_up : (which : Psi) → LookedUp which
  unfolding memory_of
  looked_up Exy = number half_e r h tables psi_e 0 (omega arith)
  looked_up Exz = number half_e r h tables psi_e 1 (omega arith)
  looked_up Eyz = number half_e r h tables psi_e 2 (omega arith)
  looked_up Eyx = number half_e r h tables psi_e 3 (omega arith)
  looked_up Ezx = number half_e r h tables psi_e 4 (omega arith)
  looked_up Ezy = number half_e r h tables psi_e 5 (omega arith)
  looked_up Hxy = number half_h r e tables psi_h 0 (omega arith)
  looked_up Hxz = number half_h r e tables psi_h 1 (omega arith)
  looked_up Hyz = number half_h r e tables psi_h 2 (omega arith)
  looked_up Hyx = number half_h r e tables psi_h 3 (omega arith)
  looked_up Hzx = number half_h r e tables psi_h 4 (omega arith)
  looked_up Hzy = number half_h r e tables psi_h 5 (omega arith)

-- where it is read: at the place of the axis, the second behind the first
pub stands_at : (which : Psi) (r : Record) (from : ℕ) → (place_of which).number * cells r ≡ (axis r from (component_of which)).mem + cond (is_first (component_of which) (along_of which)) 0 (cells r)
stands_at Exy r from = omega arith
stands_at Exz r from = omega arith
stands_at Eyz r from = omega arith
stands_at Eyx r from = omega arith
stands_at Ezx r from = omega arith
stands_at Ezy r from = omega arith
stands_at Hxy r from = omega arith
stands_at Hxz r from = omega arith
stands_at Hyz r from = omega arith
stands_at Hyx r from = omega arith
stands_at Hzx r from = omega arith
stands_at Hzy r from = omega arith
