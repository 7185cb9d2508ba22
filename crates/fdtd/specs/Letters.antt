-- The six components in the papers' letters (Yee 1966), as they follow from Halves.antt: at a cell that has all its neighbours, with the layer off. Proved here, so
-- that nothing of it has to be believed.
use Rattle.std.specs.Prelude.{ℕ, ◌+◌, ◌-◌, ◌*◌, ◌≤◌, ◌<◌, ◌≡◌, false, List, get_or, Float}
use Rattle.std.proofs.Common.{arith, ◌∙◌, ap}
use Rattle.std.proofs.Math.Path.{refl}
use Rattle.std.specs.Float.{nan}
use Rattle.root.specs.Rounded.{◌⊕◌, ◌⊖◌, ◌⊗◌, ◌⊘◌}
use Rattle.cells.specs.Cells.{cell_index}
use Rattle.grid.specs.declared.Record.{Record}
use Rattle.grid.specs.Stores.{number_at, cells}
use Rattle.fdtd.specs.Axes.{axis_x, axis_y, axis_z, next_of, previous_of}
use Rattle.fdtd.specs.Yee.{factor, ca, cb}
use Rattle.fdtd.specs.Halves.{moves_at, magnetic_after, electric_after}
use Rattle.fdtd.specs.Inner.Plain.{difference, next_is, previous_is, both_next, no_walls, magnetic_line, electric_line}

module _ (r : Record) (offX : get_or r.active 0 false ≡ false) (offY : get_or r.active 1 false ≡ false) (offZ : get_or r.active 2 false ≡ false) (i j k : ℕ) where
  -- number c of a store at the cell (i, j, k)
  abbrev number : List Float → (c i j k : ℕ) → Float
  number s c i j k = number_at s (cells r) c (cell_index r.nx r.ny i j k)

  -- number c of the cell itself
  abbrev here : List Float → (c : ℕ) → Float
  here s c = get_or s (c * cells r + cell_index r.nx r.ny i j k) nan

  abbrev dx : Float
  dx = r.spacings.dx

  abbrev dy : Float
  dy = r.spacings.dy

  abbrev dz : Float
  dz = r.spacings.dz

  abbrev dt : Float
  dt = r.spacings.dt

  nought : 0 ≡ 0 * cells r
  nought = omega arith

  once : cells r ≡ 1 * cells r
  once = omega arith

  -- ---- H after its half step
  module _ (mu0 : Float) (E media tables psi H : List Float) (x : i + 1 < r.nx) (y : j + 1 < r.ny) (z : k + 1 < r.nz) where
    -- dt/(μ0 μr)
    abbrev dt/μ : Float
    dt/μ = factor dt mu0 (here media 1)

    abbrev after : List Float
    after = magnetic_after mu0 r E media tables psi H

    abbrev ∂Ez/∂y : Float
    ∂Ez/∂y = (number E 2 i (j + 1) k ⊖ here E 2) ⊘ dy

    abbrev ∂Ey/∂z : Float
    ∂Ey/∂z = (number E 1 i j (k + 1) ⊖ here E 1) ⊘ dz

    abbrev ∂Ex/∂z : Float
    ∂Ex/∂z = (number E 0 i j (k + 1) ⊖ here E 0) ⊘ dz

    abbrev ∂Ez/∂x : Float
    ∂Ez/∂x = (number E 2 (i + 1) j k ⊖ here E 2) ⊘ dx

    abbrev ∂Ey/∂x : Float
    ∂Ey/∂x = (number E 1 (i + 1) j k ⊖ here E 1) ⊘ dx

    abbrev ∂Ex/∂y : Float
    ∂Ex/∂y = (number E 0 i (j + 1) k ⊖ here E 0) ⊘ dy

    up_x : cell_index r.nx r.ny (next_of i r.nx) j k ≡ cell_index r.nx r.ny (i + 1) j k
    up_x = ap (λ (n : ℕ). cell_index r.nx r.ny n j k) (next_is i r.nx x)

    up_y : cell_index r.nx r.ny i (next_of j r.ny) k ≡ cell_index r.nx r.ny i (j + 1) k
    up_y = ap (λ (n : ℕ). cell_index r.nx r.ny i n k) (next_is j r.ny y)

    up_z : cell_index r.nx r.ny i j (next_of k r.nz) ≡ cell_index r.nx r.ny i j (k + 1)
    up_z = ap (λ (n : ℕ). cell_index r.nx r.ny i j n) (next_is k r.nz z)

    pub Hx_after : here after 0 ≡ here H 0 ⊖ dt/μ ⊗ (∂Ez/∂y ⊖ ∂Ey/∂z)
    unfolding moves_at
    Hx_after =
        magnetic_line r i j k (omega arith) (omega arith) (omega arith) mu0 E media tables psi H 0 (omega arith) (both_next (axis_y r 3) (axis_z r 3) j k y z) offY offZ
        ∙ rw (difference dy E (cells r) (2 * cells r) 2 refl refl up_y, difference dz E (cells r) (cells r) 1 once refl up_z)

    pub Hy_after : here after 1 ≡ here H 1 ⊖ dt/μ ⊗ (∂Ex/∂z ⊖ ∂Ez/∂x)
    unfolding moves_at
    Hy_after =
        magnetic_line r i j k (omega arith) (omega arith) (omega arith) mu0 E media tables psi H 1 (omega arith) (both_next (axis_z r 3) (axis_x r 3) k i z x) offZ offX
        ∙ rw (difference dz E (cells r) 0 0 nought refl up_z, difference dx E (cells r) (2 * cells r) 2 refl refl up_x)

    pub Hz_after : here after 2 ≡ here H 2 ⊖ dt/μ ⊗ (∂Ey/∂x ⊖ ∂Ex/∂y)
    unfolding moves_at
    Hz_after =
        magnetic_line r i j k (omega arith) (omega arith) (omega arith) mu0 E media tables psi H 2 (omega arith) (both_next (axis_x r 3) (axis_y r 3) i j x y) offX offY
        ∙ rw (difference dx E (cells r) (cells r) 1 once refl up_x, difference dy E (cells r) 0 0 nought refl up_y)

  -- ---- E after its half step; Δ c m is the change of the polarization's component c in the cell at m
  module _ (eps0 : Float) (H media tables : List Float) (Δ : ℕ → ℕ → Float) (psi E : List Float) (x0 : 1 ≤ i) (x : i + 1 < r.nx) (y0 : 1 ≤ j) (y : j + 1 < r.ny)
      (z0 : 1 ≤ k) (z : k + 1 < r.nz) where
    -- ε/dt - σ/2, and ε/dt + σ/2
    abbrev c₋ : Float
    c₋ = ca eps0 dt (here media 0) (here media 2)

    abbrev c₊ : Float
    c₊ = cb eps0 dt (here media 0) (here media 2)

    abbrev ΔP : ℕ → Float
    ΔP c = Δ c (cell_index r.nx r.ny i j k)

    abbrev later : List Float
    later = electric_after eps0 r H media tables Δ psi E

    abbrev ∂Hz/∂y : Float
    ∂Hz/∂y = (here H 2 ⊖ number H 2 i (j - 1) k) ⊘ dy

    abbrev ∂Hy/∂z : Float
    ∂Hy/∂z = (here H 1 ⊖ number H 1 i j (k - 1)) ⊘ dz

    abbrev ∂Hx/∂z : Float
    ∂Hx/∂z = (here H 0 ⊖ number H 0 i j (k - 1)) ⊘ dz

    abbrev ∂Hz/∂x : Float
    ∂Hz/∂x = (here H 2 ⊖ number H 2 (i - 1) j k) ⊘ dx

    abbrev ∂Hy/∂x : Float
    ∂Hy/∂x = (here H 1 ⊖ number H 1 (i - 1) j k) ⊘ dx

    abbrev ∂Hx/∂y : Float
    ∂Hx/∂y = (here H 0 ⊖ number H 0 i (j - 1) k) ⊘ dy

    down_x : cell_index r.nx r.ny (previous_of i r.nx) j k ≡ cell_index r.nx r.ny (i - 1) j k
    down_x = ap (λ (n : ℕ). cell_index r.nx r.ny n j k) (previous_is i r.nx x0)

    down_y : cell_index r.nx r.ny i (previous_of j r.ny) k ≡ cell_index r.nx r.ny i (j - 1) k
    down_y = ap (λ (n : ℕ). cell_index r.nx r.ny i n k) (previous_is j r.ny y0)

    down_z : cell_index r.nx r.ny i j (previous_of k r.nz) ≡ cell_index r.nx r.ny i j (k - 1)
    down_z = ap (λ (n : ℕ). cell_index r.nx r.ny i j n) (previous_is k r.nz z0)

    pub Ex_after : here later 0 ≡ (c₋ ⊗ here E 0 ⊕ (∂Hz/∂y ⊖ ∂Hy/∂z) ⊖ ΔP 0 ⊘ dt) ⊘ c₊
    unfolding moves_at
    Ex_after =
        electric_line r i j k (omega arith) (omega arith) (omega arith) eps0 H media tables Δ psi E 0 (omega arith) (no_walls (axis_y r 0) (axis_z r 0) j k y0 y z0 z) offY offZ
        ∙ rw (difference dy H (cells r) (2 * cells r) 2 refl down_y refl, difference dz H (cells r) (cells r) 1 once down_z refl)

    pub Ey_after : here later 1 ≡ (c₋ ⊗ here E 1 ⊕ (∂Hx/∂z ⊖ ∂Hz/∂x) ⊖ ΔP 1 ⊘ dt) ⊘ c₊
    unfolding moves_at
    Ey_after =
        electric_line r i j k (omega arith) (omega arith) (omega arith) eps0 H media tables Δ psi E 1 (omega arith) (no_walls (axis_z r 0) (axis_x r 0) k i z0 z x0 x) offZ offX
        ∙ rw (difference dz H (cells r) 0 0 nought down_z refl, difference dx H (cells r) (2 * cells r) 2 refl down_x refl)

    pub Ez_after : here later 2 ≡ (c₋ ⊗ here E 2 ⊕ (∂Hy/∂x ⊖ ∂Hx/∂y) ⊖ ΔP 2 ⊘ dt) ⊘ c₊
    unfolding moves_at
    Ez_after =
        electric_line r i j k (omega arith) (omega arith) (omega arith) eps0 H media tables Δ psi E 2 (omega arith) (no_walls (axis_x r 0) (axis_y r 0) i j x0 x y0 y) offX offY
        ∙ rw (difference dx H (cells r) (cells r) 1 once down_x refl, difference dy H (cells r) 0 0 nought down_y refl)
