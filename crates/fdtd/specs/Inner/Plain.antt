-- What a half step gives at a cell that moves, where no layer is on: for Letters.antt, which says it component by component. Assumes nothing.
use Rattle.std.specs.Prelude.{ℕ, ◌+◌, ◌-◌, ◌*◌, ◌≤◌, ◌<◌, ◌≡◌, refl, Bool, true, false, cond, not, ◌&&◌, ◌||◌, List, ltb, eqb, get_or, Float}
use Rattle.std.proofs.Common.{arith, ◌∙◌, lt-ltb, ne_eqb}
use Rattle.std.proofs.Math.Path.{ap}
use Rattle.std.specs.Float.{nan}
use Rattle.root.specs.Rounded.{◌⊕◌, ◌⊖◌, ◌⊗◌, ◌⊘◌}
use Rattle.cells.specs.Cells.{cell_index}
use Rattle.grid.specs.declared.Record.{Record}
use Rattle.grid.specs.Stores.{number_at, cells}
use Rattle.fdtd.specs.declared.Axis.{Axis}
use Rattle.fdtd.specs.Axes.{next_of, previous_of, has_next, walled}
use Rattle.fdtd.specs.Yee.{Term, slope, curl, factor, moves_h, updated_h, ca, cb, moves_e, updated_e}
use Rattle.fdtd.specs.Halves.{half_h, half_e, moves_at, curl_at, first_term, second_term, magnetic_at, magnetic_after, electric_at, electric_after}
use Rattle.fdtd.specs.Reading.{magnetic_at_lem, electric_at_lem}

-- ---- over variables
pub off : {A : Type 0} (on : Bool) (x y : A) → on ≡ false → cond on x y ≡ y
off on x y e = rw e

is_on : {A : Type 0} (on : Bool) (x y : A) → on ≡ true → cond on x y ≡ x
is_on on x y e = rw e

no_layer : (b c : Term) → b.on ≡ false → c.on ≡ false → curl b c ≡ b.deriv ⊖ c.deriv
unfolding curl
no_layer b c p q = off c.on _ _ q ∙ off b.on _ _ p

-- a place p that is that of number c of a store of n cells, and the two cells of a difference
pub difference : (d : Float) (s : List Float) (n p c : ℕ) {lo lo' hi hi' : ℕ} → p ≡ c * n → lo ≡ lo' → hi ≡ hi'
    → slope d (get_or s (p + lo) nan) (get_or s (p + hi) nan) ≡ (number_at s n c hi' ⊖ number_at s n c lo') ⊘ d
difference d s n p c ep el eh = rw (ep, el, eh)

pub next_is : (p n : ℕ) → p + 1 < n → next_of p n ≡ p + 1
next_is p n h = is_on (ltb (p + 1) n) (p + 1) 0 (lt-ltb (p + 1) n h)

pub previous_is : (p n : ℕ) → 1 ≤ p → previous_of p n ≡ p - 1
previous_is p n h = off (eqb p 0) (n - 1) (p - 1) (ne_eqb p 0 (λ e. let z : 1 ≤ 0 = omega arith in omega arith))

has_next_lem : (w : Axis) (p : ℕ) → p + 1 < w.n → has_next w p ≡ true
has_next_lem w p h = rw (lt-ltb (p + 1) w.n h)

pub both_next : (w v : Axis) (p q : ℕ) → p + 1 < w.n → q + 1 < v.n → moves_h w v p q ≡ true
both_next w v p q h k = go (has_next_lem w p h) (has_next_lem v q k)
  where
    go : {x y : Bool} → x ≡ true → y ≡ true → (x && y) ≡ true
    go e f = rw (e, f)

no_wall_lem : (w : Axis) (p : ℕ) → 1 ≤ p → p + 1 < w.n → walled w p ≡ false
no_wall_lem w p h k = go (not w.wraps)
    (ne_eqb p 0 (λ e. omega arith))
    (ne_eqb p (w.n - 1) (λ e. omega arith))
  where
    go : (b : Bool) {x y : Bool} → x ≡ false → y ≡ false → (b && (x || y)) ≡ false
    go true p q = rw (p, q)
    go false p q = refl

pub no_walls : (w v : Axis) (p q : ℕ) → 1 ≤ p → p + 1 < w.n → 1 ≤ q → q + 1 < v.n → moves_e w v p q ≡ true
no_walls w v p q a b c d = go (no_wall_lem w p a b) (no_wall_lem v q c d)
  where
    go : {x y : Bool} → x ≡ false → y ≡ false → not (x || y) ≡ true
    go e f = rw (e, f)

module _ (r : Record) (i j k : ℕ) (x : i < r.nx) (y : j < r.ny) (z : k < r.nz) where
  abbrev cell : ℕ
  cell = cell_index r.nx r.ny i j k

  -- ---- H
  module _ (mu0 : Float) (e media tables psi h : List Float) (a : ℕ) (l : a < 3) (goes : moves_at half_h r e tables psi a i j k ≡ true)
      (p : (first_term half_h r e tables psi a i j k).on ≡ false) (q : (second_term half_h r e tables psi a i j k).on ≡ false) where
    pub magnetic_line : get_or (magnetic_after mu0 r e media tables psi h) (a * cells r + cell) nan ≡
        number_at h (cells r) a cell
        ⊖ factor r.spacings.dt mu0 (number_at media (cells r) 1 cell)
        ⊗ ((first_term half_h r e tables psi a i j k).deriv ⊖ (second_term half_h r e tables psi a i j k).deriv)
    unfolding magnetic_at updated_h curl_at
    magnetic_line =
        magnetic_at_lem r i j k x y z mu0 e media tables psi h a l
        ∙ is_on (moves_at half_h r e tables psi a i j k) _ _ goes
        ∙ ap (λ (u : Float). number_at h (cells r) a cell ⊖ factor r.spacings.dt mu0 (number_at media (cells r) 1 cell) ⊗ u) (no_layer _ _ p q)

  -- ---- E
  module _ (eps0 : Float) (h media tables : List Float) (dp : ℕ → ℕ → Float) (psi e : List Float) (a : ℕ) (l : a < 3) (goes : moves_at half_e r h tables psi a i j k ≡ true)
      (p : (first_term half_e r h tables psi a i j k).on ≡ false) (q : (second_term half_e r h tables psi a i j k).on ≡ false) where
    abbrev eps_r : Float
    eps_r = number_at media (cells r) 0 cell

    abbrev sigma : Float
    sigma = number_at media (cells r) 2 cell

    abbrev dt : Float
    dt = r.spacings.dt

    pub electric_line : get_or (electric_after eps0 r h media tables dp psi e) (a * cells r + cell) nan ≡
        (ca eps0 dt eps_r sigma ⊗ number_at e (cells r) a cell
        ⊕ ((first_term half_e r h tables psi a i j k).deriv ⊖ (second_term half_e r h tables psi a i j k).deriv)
        ⊖ dp a cell ⊘ dt) ⊘ cb eps0 dt eps_r sigma
    unfolding electric_at updated_e curl_at
    electric_line =
        electric_at_lem r i j k x y z eps0 h media tables dp psi e a l
        ∙ is_on (moves_at half_e r h tables psi a i j k) _ _ goes
        ∙ ap (λ (u : Float). (ca eps0 dt eps_r sigma ⊗ number_at e (cells r) a cell ⊕ u ⊖ dp a cell ⊘ dt) ⊘ cb eps0 dt eps_r sigma) (no_layer _ _ p q)
