-- Laws of the record's faults: a finite number above zero by two comparisons, a fact of every number below n, and what a record without fault meets.
-- Assumes nothing.
use Prim.Native.Nat.{ℕ, zero, suc, ◌+◌, ◌*◌, ◌≤◌, ◌<◌, zero-le, suc-le-suc}
use native.Mathlib.Nat.{eq-or-lt_of_le, zero-mul, mul-one, mul-pos, mul-le-mul, le_of_suc-le-suc, not-suc-le-zero}
use native.Mathlib.Numerals.{add-one}
use native.Mathlib.Omega.{arith}
use mathlib.Core.Bool.{Bool, true, false, ◌&&◌, and-false}
use mathlib.Core.Path.{◌≡◌, refl, sym, subst, ◌∙◌}
use mathlib.Core.Logic.{⊎_elim}
use lib.Dec.{leb, ltb, eqb}
use lib.IntN.{ℤ, pos}
use lib.Ieee.{Float, nan, inf, fin, lt, up, down, binary64, of_bits, div}
use lib.Ieee.Positive.{positive}
use lib.Ieee.Fits.{up_pos}
use borrow.Author.Tests.{leb-true, lt-ltb}
use Rattle.grid.specs.declared.Record.{Record}
use Rattle.grid.specs.Inner.Sound.{Sound}
use Rattle.grid.specs.Vacuum.{eps_of}
use Rattle.grid.specs.Fault.{side_fits, sides_fit, size_fits, all_below, material_at, pole_count, opened_fit, counts_fit, material_steps, material_fits, poles_fit, layer_fits, region_fits, spacings_fit, study_fits, fault_of}
use Rattle.grid.proofs.Tests.{and_left, and_right, first_none}

-- ---- finite and above zero
same_above : (n d : ℕ) (e : ℤ) → ltb (0 * 1 * d) (n * up e * 1) ≡ ltb 0 n
same_above zero d e = rw (zero-mul d, zero-mul (up e)) refl
same_above (suc n) d e =
    rw (zero-mul d, mul-one (suc n * up e))
    (lt-ltb 0 (suc n * up e) (mul-pos (suc-le-suc zero-le) (up_pos e)) ∙ sym (lt-ltb 0 (suc n) (suc-le-suc zero-le)))

and_true : (b : Bool) → (b && true) ≡ b
and_true true = refl
and_true false = refl

positive_at : (x : Float) → (lt (fin false 0 (pos 0)) x && lt x (inf false)) ≡ positive x
unfolding lt
positive_at nan = refl
positive_at (inf true) = refl
positive_at (inf false) = refl
positive_at (fin true m e) = refl
positive_at (fin false m e) = rw and_true (same_above m (down e) e)

zero_is : of_bits binary64 0 ≡ fin false 0 (pos 0)
unfolding of_bits
zero_is = refl

infinity_is : div binary64 (of_bits binary64 4607182418800017408) (of_bits binary64 0) ≡ inf false
unfolding of_bits div
infinity_is = refl

-- the code's `0.0 < x` and `x < 1.0 / 0.0`
pub positive_is : (x : Float) → (lt (of_bits binary64 0) x && lt x (div binary64 (of_bits binary64 4607182418800017408) (of_bits binary64 0))) ≡ positive x
positive_is x = rw (infinity_is, zero_is) (positive_at x)

-- ---- every number below n
pub all_more : (f : ℕ → Bool) (n : ℕ) → all_below f n ≡ true → f n ≡ true → all_below f (n + 1) ≡ true
unfolding all_below
all_more f n p q = rw (add-one n, p, q)

pub all_fails : (f : ℕ → Bool) (i n : ℕ) → i < n → f i ≡ false → all_below f n ≡ false
unfolding all_below
all_fails f i zero l q = absurd (not-suc-le-zero l)
all_fails f i (suc n) l q = ⊎_elim (λ e. last e) (λ b. rw (all_fails f i n b q)) (eq-or-lt_of_le (le_of_suc-le-suc l))
  where
    last : i ≡ n → (all_below f n && f n) ≡ false
    last e = rw (← e, q) (and-false (all_below f i))

pub all_at : (f : ℕ → Bool) (n i : ℕ) → all_below f n ≡ true → i < n → f i ≡ true
unfolding all_below
all_at f zero i e h = absurd (not-suc-le-zero h)
all_at f (suc n) i e h =
    ⊎_elim (λ q. subst (λ (k : ℕ). f k ≡ true) (sym q) (and_right (all_below f n) (f n) e)) (λ b. all_at f n i (and_left (all_below f n) (f n) e) b)
    (eq-or-lt_of_le (le_of_suc-le-suc h))

pub all_same : (f g : ℕ → Bool) (n : ℕ) → ((i : ℕ) → i < n → f i ≡ g i) → all_below f n ≡ all_below g n
unfolding all_below
all_same f g zero h = refl
all_same f g (suc n) h = rw (all_same f g n (λ i l. h i (omega arith)), h n (omega arith))

pub all_true : (f : ℕ → Bool) (n : ℕ) → ((i : ℕ) → i < n → f i ≡ true) → all_below f n ≡ true
unfolding all_below
all_true f zero h = refl
all_true f (suc n) h = rw (all_true f n (λ i l. h i (omega arith)), h n (omega arith))

-- a counted material has no more poles than slots
pub poles_at : (r : Record) (i : ℕ) → poles_fit r ≡ true → i < r.material_count → pole_count r i ≤ r.pole_slots
unfolding poles_fit material_fits
poles_at r i e h =
    let m = material_at r i in
    leb-true m.pole_count r.pole_slots (and_left (leb m.pole_count r.pole_slots) (material_steps (eps_of r) r.spacings.dt m) (all_at _ r.material_count i e h))

-- ---- sizes
-- three sides, and what the code multiplies them to
pub record Sides (a b c : ℕ) : Type 0 where
  pub x1 : 1 ≤ a
  pub y1 : 1 ≤ b
  pub z1 : 1 ≤ c
  pub xs : a ≤ 512
  pub ys : b ≤ 512
  pub zs : c ≤ 512
  pub plane : a * b ≤ 262144
  pub some : 1 ≤ a * b * c
  pub wide : a * b * c ≤ 134217728

side_of : (n : ℕ) → side_fits n ≡ true → (1 ≤ n) × (n ≤ 512)
unfolding side_fits
side_of n e = (leb-true 1 n (and_left (leb 1 n) (leb n 512) e), leb-true n 512 (and_right (leb 1 n) (leb n 512) e))

pub sides_of : (a b c : ℕ) → sides_fit a b c ≡ true → Sides a b c
unfolding sides_fit
sides_of a b c e =
    let two = and_left (side_fits a && side_fits b) (side_fits c) e in
    let x = side_of a (and_left (side_fits a) (side_fits b) two) in
    let y = side_of b (and_right (side_fits a) (side_fits b) two) in
    let z = side_of c (and_right (side_fits a && side_fits b) (side_fits c) e) in
    record {
      x1 = x.0;
      y1 = y.0;
      z1 = z.0;
      xs = x.1;
      ys = y.1;
      zs = z.1;
      plane = mul-le-mul x.1 y.1;
      some = mul-pos (mul-pos x.0 y.0) z.0;
      wide = mul-le-mul (mul-le-mul x.1 y.1) z.1;
    }

size_of : (a b c : ℕ) → size_fits a b c ≡ true → Sides a b c × (a * b * c ≤ 1048576)
unfolding size_fits
size_of a b c e =
    (sides_of a b c (and_left (sides_fit a b c) (leb (a * b * c) 1048576) e), leb-true _ _ (and_right (sides_fit a b c) (leb (a * b * c) 1048576) e))

-- ---- counts
pub counts_of : (r : Record) → counts_fit r ≡ true → (r.pole_slots ≤ 4) × (r.material_count ≤ 16) × (r.constants ≤ 1)
unfolding counts_fit
counts_of r e =
    let slots = opened_fit r in
    let low = leb 1 r.material_count in
    let high = leb r.material_count 16 in
    let built = leb r.built_count r.material_count in
    let three = and_left (slots && low && high) built (and_left (slots && low && high && built) (eqb (pole_count r 0) 0) e) in
    let two = and_left slots low (and_left (slots && low) high three) in (
      leb-true r.pole_slots 4 (and_right (leb r.constants 1) (leb r.pole_slots 4) two),
      leb-true r.material_count 16 (and_right (slots && low) high three),
      leb-true r.constants 1 (and_left (leb r.constants 1) (leb r.pole_slots 4) two),
    )

study_counts : (r : Record) → study_fits r ≡ true → counts_fit r ≡ true
unfolding study_fits
study_counts r e =
    let layer = layer_fits r.active r.layer_on in
    let region = region_fits r.region r.nx r.ny r.nz in
    and_left (counts_fit r) (poles_fit r) (and_left (counts_fit r && poles_fit r) layer (and_left (counts_fit r && poles_fit r && layer) region e))

pole_store_small : (p n : ℕ) → p ≤ 4 → n ≤ 1048576 → (6 * p + 3) * n ≤ 28311552
pole_store_small p n a b = let h : 6 * p + 3 ≤ 27 = omega arith in mul-le-mul h b

-- ---- a record without fault
pub sound : (r : Record) → fault_of r ≡ 0 → Sound r
unfolding fault_of
sound r e =
    let h1 = first_none (size_fits r.nx r.ny r.nz) 0 _ e in
    let h2 = first_none (spacings_fit r.spacings) 1 _ h1.1 in
    let h3 = first_none (study_fits r) 2 0 h2.1 in
    let size = size_of r.nx r.ny r.nz h1.0 in
    let count = counts_of r (study_counts r h3.0) in
    record {
      x1 = size.0.x1;
      y1 = size.0.y1;
      z1 = size.0.z1;
      xs = size.0.xs;
      ys = size.0.ys;
      zs = size.0.zs;
      plane = size.0.plane;
      some = size.0.some;
      cells = size.1;
      slots = count.0;
      poles = pole_store_small r.pole_slots (r.nx * r.ny * r.nz) count.0 size.1;
      materials = count.1;
    }

-- and its constants are one of the two sets
pub constants_of : (r : Record) → fault_of r ≡ 0 → r.constants ≤ 1
unfolding fault_of
constants_of r e =
    let h1 = first_none (size_fits r.nx r.ny r.nz) 0 _ e in
    let h2 = first_none (spacings_fit r.spacings) 1 _ h1.1 in
    let h3 = first_none (study_fits r) 2 0 h2.1 in
    (counts_of r (study_counts r h3.0)).2
