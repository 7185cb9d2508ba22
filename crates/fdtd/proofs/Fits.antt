-- A study's grid in rows along x, y or z: its stores fit, and each cell stands in one row. Assumes nothing.
use mathlib.Core.Path.{◌≡◌, refl, sym, ◌∙◌, ap}
use mathlib.Core.Logic.{inl, inr}
use mathlib.Core.Bool.{Bool, true, false, cond}
use mathlib.Core.List.{List}
use Prim.Native.Nat.{ℕ, ◌+◌, ◌-◌, ◌*◌, ◌≤◌, ◌<◌}
use native.Mathlib.Nat.{add-mul, mul_comm, mul_assoc, mul-one, zero-mul, mul-le-mul_right}
use native.Mathlib.Omega.{arith}
use lib.Dec.{eqb, ltb}
use borrow.Author.Tests.{ltb-true}
use lib.ListN.{length}
use lib.Ieee.{Float}
use Rattle.cells.specs.Cells.{cell_index}
use Rattle.cells.proofs.Pointwise.{cells_same}
use Rattle.grid.specs.declared.Record.{Record}
use Rattle.grid.specs.Inner.Sound.{Sound}
use Rattle.grid.specs.Stores.{cells}
use Rattle.fdtd.specs.declared.turns.Turn.{Turn}
use Rattle.fdtd.specs.Axes.{next_of, previous_of}
use Rattle.fdtd.specs.Inner.Turns.{turn_x, turn_y, turn_z, turn_for, Fit, Laid}

module _ (r : Record) (from : ℕ) (low : from ≤ 3) (sound : Sound r) where
  tab_x : from * r.nx ≤ 3 * r.nx
  tab_x = mul-le-mul_right r.nx low

  tab_y : from * r.ny ≤ 3 * r.ny
  tab_y = mul-le-mul_right r.ny low

  tab_z : from * r.nz ≤ 3 * r.nz
  tab_z = mul-le-mul_right r.nz low

  laid_x : Laid (turn_x r from)
  laid_x =
      record {
        rows = record { whole = cells_same r.nx r.ny r.nz ∙ sym (mul_assoc r.nz r.ny r.nx); few = sound.cells; sn = sound.ys; tn = sound.zs };
        rs = inl (omega arith, omega arith);
        rt = inl (omega arith, omega arith);
        st = inl (omega arith, omega arith);
      }

  laid_y : Laid (turn_y r from)
  laid_y =
      record {
        rows = record { whole = mul_assoc r.nx r.ny r.nz ∙ ap (λ (n : ℕ). r.nx * n) (mul_comm r.ny r.nz) ∙ sym (mul_assoc r.nx r.nz r.ny); few = sound.cells; sn = sound.zs; tn = sound.xs };
        rs = inl (omega arith, omega arith);
        rt = inr (omega arith, omega arith);
        st = inr (omega arith, omega arith);
      }

  laid_z : Laid (turn_z r from)
  laid_z =
      record {
        rows = record { whole = ap (λ (n : ℕ). n * r.nz) (mul_comm r.nx r.ny); few = sound.cells; sn = sound.xs; tn = sound.ys };
        rs = inr (omega arith, omega arith);
        rt = inr (omega arith, omega arith);
        st = inl (omega arith, omega arith);
      }

  module _ (e tab m x : List Float) (le : length e ≡ 3 * cells r) (lt : length tab ≡ 6 * (r.nx + r.ny + r.nz)) (lm : length m ≡ 6 * cells r)
      (lx : length x ≡ 3 * cells r) where
    fit_x : Fit (turn_x r from) e tab m x
    fit_x =
        record {
          laid = laid_x;
          some = sound.x1;
          small = sound.xs;
          er = omega arith;
          es = omega arith;
          et = omega arith;
          hr = omega arith;
          hs = omega arith;
          ht = omega arith;
          mr = omega arith;
          ms = omega arith;
          mt = omega arith;
          tr = omega (arith, tab_x);
          ts = omega (arith, tab_y);
          tt = omega (arith, tab_z);
        }

    fit_y : Fit (turn_y r from) e tab m x
    fit_y =
        record {
          laid = laid_y;
          some = sound.y1;
          small = sound.ys;
          er = fit_x.es;
          es = fit_x.et;
          et = fit_x.er;
          hr = fit_x.hs;
          hs = fit_x.ht;
          ht = fit_x.hr;
          mr = fit_x.ms;
          ms = fit_x.mt;
          mt = fit_x.mr;
          tr = fit_x.ts;
          ts = fit_x.tt;
          tt = fit_x.tr;
        }

    fit_z : Fit (turn_z r from) e tab m x
    fit_z =
        record {
          laid = laid_z;
          some = sound.z1;
          small = sound.zs;
          er = fit_x.et;
          es = fit_x.er;
          et = fit_x.es;
          hr = fit_x.ht;
          hs = fit_x.hr;
          ht = fit_x.hs;
          mr = fit_x.mt;
          ms = fit_x.mr;
          mt = fit_x.ms;
          tr = fit_x.tt;
          ts = fit_x.tr;
          tt = fit_x.ts;
        }

    fit_case : (a b : Bool) → Fit (cond a (cond b (turn_z r from) (turn_y r from)) (turn_x r from)) e tab m x
    fit_case true true = fit_z
    fit_case true false = fit_y
    fit_case false b = fit_x

    pub fit_for : {g : Turn} → g ≡ turn_for r from → Fit g e tab m x
    fit_for p = rw p (fit_case (eqb r.nx 1) (eqb r.ny 1))

count_case : (r : Record) (from : ℕ) (a b : Bool) → (cond a (cond b (turn_z r from) (turn_y r from)) (turn_x r from)).count ≡ cells r
count_case r from true true = refl
count_case r from true false = refl
count_case r from false b = refl

pub count_for : (r : Record) (from : ℕ) (g : Turn) → g ≡ turn_for r from → g.count ≡ cells r
count_for r from g p = ap (λ (h : Turn). h.count) p ∙ count_case r from (eqb r.nx 1) (eqb r.ny 1)

-- ---- the cell (i, j, k) in rows along x; along y, one cell wide; along z, on a line
pub place_x : (i j k nx ny : ℕ) → (j + k * ny) * nx + i ≡ cell_index nx ny i j k
place_x i j k nx ny =
    let a : k * ny * nx ≡ k * (nx * ny) = mul_assoc k ny nx ∙ ap (λ (x : ℕ). k * x) (mul_comm ny nx) in
    omega (arith, add-mul j (k * ny) nx)

pub place_y : (i j k nx ny nz : ℕ) → nx ≡ 1 → i < nx → (k + i * nz) * ny + j ≡ cell_index nx ny i j k
place_y i j k nx ny nz en h =
    let ei : i ≡ 0 = omega arith in
    let z : i * nz ≡ 0 = ap (λ (x : ℕ). x * nz) ei ∙ zero-mul nz in
    let a : k + i * nz ≡ k = omega arith in
    let b : (k + i * nz) * ny ≡ k * ny = ap (λ (x : ℕ). x * ny) a in
    let c : (j + k * ny) * nx ≡ j + k * ny = ap (λ (x : ℕ). (j + k * ny) * x) en ∙ mul-one (j + k * ny) in
    let d : (k + i * nz) * ny + j ≡ (j + k * ny) * nx + i = omega arith in
    d ∙ place_x i j k nx ny

pub place_z : (i j k nx ny nz : ℕ) → nx ≡ 1 → ny ≡ 1 → i < nx → j < ny → (i + j * nx) * nz + k ≡ cell_index nx ny i j k
place_z i j k nx ny nz en em h l =
    let ei : i ≡ 0 = omega arith in
    let ej : j ≡ 0 = omega arith in
    let z : j * nx ≡ 0 = ap (λ (x : ℕ). x * nx) ej ∙ zero-mul nx in
    let a : i + j * nx ≡ 0 = omega arith in
    let b : (i + j * nx) * nz ≡ 0 = ap (λ (x : ℕ). x * nz) a ∙ zero-mul nz in
    let d : k * ny ≡ k = ap (λ (x : ℕ). k * x) em ∙ mul-one k in
    let c : (j + k * ny) * nx ≡ j + k * ny = ap (λ (x : ℕ). (j + k * ny) * x) en ∙ mul-one (j + k * ny) in
    let f : (i + j * nx) * nz + k ≡ (j + k * ny) * nx + i = omega arith in
    f ∙ place_x i j k nx ny

next_case : (b : Bool) (p n : ℕ) → ltb (p + 1) n ≡ b → p < n → cond b (p + 1) 0 < n
next_case true p n e h = ltb-true (p + 1) n e
next_case false p n e h = omega arith

pub next_less : (p n : ℕ) → p < n → next_of p n < n
next_less p n h = next_case (ltb (p + 1) n) p n refl h

before_case : (b : Bool) (p n : ℕ) → p < n → cond b (n - 1) (p - 1) < n
before_case true p n h = omega arith
before_case false p n h = omega arith

pub previous_less : (p n : ℕ) → p < n → previous_of p n < n
previous_less p n h = before_case (eqb p 0) p n h
