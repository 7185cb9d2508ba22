-- A positive double as a number of 53 digits with an exponent.
use mathlib.Core.Path.{◌≡◌, refl, sym, ap, ◌∙◌}
use Prim.Native.Nat.{ℕ, zero, suc, ◌+◌, ◌-◌, ◌*◌, ◌%◌, ◌^◌, ◌≤◌, ◌<◌}
use native.Mathlib.Nat.{lt_of_not-le, lt_of_le_of_lt, mul_assoc, mul_comm, mul_right_comm, mul-le-mul_right, mul-lt-mul_of_pos_right, pow-suc}
use native.Mathlib.Omega.{arith}
use lib.Pow.{pow-add, pow_pos, pow_mono}
use Rattle.std.specs.Int.Count.{count_leading_zeros}
use Rattle.std.proofs.lemmas.Nat.{leading_top}
use Rattle.root.specs.Inner.Steps.{Scale, units_of}

-- a normal one has them
pub normal : (field t : ℕ) → field < 2047 → t < 2 ^ 52 → 0 < field → Scale (units_of field t) (2 ^ 52 + t) (field + 51)
normal zero t f l p = absurd (no p)
  where
    no : 0 < 0 → ⊥
    no h = omega arith
normal (suc g) t f l p =
    let e : suc g + 51 ≡ g + 52 = omega arith in
    record {
      low = omega arith;
      high = omega arith;
      small = omega arith;
      same = ap (λ (n : ℕ). (2 ^ 52 + t) * 2 ^ n) e ∙ ap (λ (n : ℕ). (2 ^ 52 + t) * n) (pow-add 2 g 52) ∙ sym (mul_assoc (2 ^ 52 + t) (2 ^ g) (2 ^ 52));
    }

at_zero : (field t : ℕ) → field ≤ 0 → units_of field t ≡ t
at_zero zero t h = refl
at_zero (suc g) t h = absurd (no g h)
  where
    no : (g : ℕ) → suc g ≤ 0 → ⊥
    no g h = omega arith

-- a subnormal one, of j + 1 digits, is brought up to 53
raised : (t s j : ℕ) → s + j ≡ 52 → 2 ^ j ≤ t → t < 2 ^ suc j → Scale t (t * 2 ^ s % 2 ^ 64) (52 - s)
raised t s j e l h =
    let f : j + s ≡ 52 = omega arith in
    let p : 2 ^ j * 2 ^ s ≡ 2 ^ 52 = sym (pow-add 2 j s) ∙ ap (λ (n : ℕ). 2 ^ n) f in
    let b : 2 ^ j * 2 ^ s ≤ t * 2 ^ s = mul-le-mul_right (2 ^ s) l in
    let u : t * 2 ^ s < 2 ^ suc j * 2 ^ s = mul-lt-mul_of_pos_right h (pow_pos s) in
    let v : 2 ^ suc j * 2 ^ s ≡ 2 ^ j * 2 ^ s * 2 = ap (λ (n : ℕ). n * 2 ^ s) (pow-suc 2 j) ∙ mul_right_comm (2 ^ j) 2 (2 ^ s) in
    let m : t * 2 ^ s % 2 ^ 64 ≡ t * 2 ^ s = omega arith in
    let k : 52 - s ≡ j = omega arith in
    rw (m, k) (record {
      low = omega arith;
      high = omega arith;
      small = omega arith;
      same = mul_assoc t (2 ^ s) (2 ^ j) ∙ ap (λ (n : ℕ). t * n) (mul_comm (2 ^ s) (2 ^ j) ∙ p);
    })

below : (j : ℕ) → 2 ^ j < 2 ^ 52 → j < 52
below j h = lt_of_not-le (λ u. let v : 2 ^ 52 ≤ 2 ^ j = pow_mono u in let z : ⊥ = omega arith in z)

pub subnormal : (field t : ℕ) → field ≤ 0 → t < 2 ^ 52 → 0 < units_of field t → let z : ℕ = count_leading_zeros 64 t in
    (11 ≤ z) × Scale (units_of field t) (t * 2 ^ (z - 11) % 2 ^ 64) (52 - (z - 11))
subnormal field t h l p =
    let e : units_of field t ≡ t = at_zero field t h in
    let some : 0 < t = omega (arith, e) in
    let top = leading_top 64 t some (omega arith) in
    go top.0 top.1 top.2 top.3 e
  where
    go : (j : ℕ) → count_leading_zeros 64 t + suc j ≡ 64 → 2 ^ j ≤ t → t < 2 ^ suc j → units_of field t ≡ t →
        (11 ≤ count_leading_zeros 64 t) × Scale (units_of field t) (t * 2 ^ (count_leading_zeros 64 t - 11) % 2 ^ 64) (52 - (count_leading_zeros 64 t - 11))
    go j q low high e =
        let short : j < 52 = below j (lt_of_le_of_lt low l) in
        let s : count_leading_zeros 64 t - 11 + j ≡ 52 = omega arith in
        (omega arith, rw e (raised t (count_leading_zeros 64 t - 11) j s low high))
