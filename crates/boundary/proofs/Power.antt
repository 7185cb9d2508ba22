-- The three rules of a power by halving, said of `power` and not of the count of calls. Assumes nothing.
use Rattle.std.proofs.Common.{◌≡◌, ℕ, zero, suc, ◌-◌, ◌/◌, ◌%◌, ◌≤◌, Bool, true, false, cond, eqb, sym, refl, ap, ◌∙◌, arith, eq-eqb, ne_eqb}
use lib.Ieee.{Float}
use borrow.Author.Tests.{eqb-false}
use Rattle.root.specs.Rounded.{◌⊗◌, one_f}
use Rattle.boundary.specs.Lossy.{power_in, power}

-- one call: what the two tests say, and what the two calls below give
abbrev once : Bool → Bool → Float → Float → Float → Float
once none even u half less = cond none one_f (cond even half (u ⊗ less))

-- as many calls as the exponent are enough, and more give the same
enough : (d e : ℕ) (u : Float) (n : ℕ) → n ≤ d → n ≤ e → power_in d u n ≡ power_in e u n
unfolding power_in
enough zero zero u n p q = refl
enough zero (suc e) u n p q = ap (λ (t : Bool). once t (eqb (n % 2) 0) u (power_in e (u ⊗ u) (n / 2)) (power_in e u (n - 1))) (sym (eq-eqb n 0 (omega arith)))
enough (suc d) zero u n p q = ap (λ (t : Bool). once t (eqb (n % 2) 0) u (power_in d (u ⊗ u) (n / 2)) (power_in d u (n - 1))) (eq-eqb n 0 (omega arith))
enough (suc d) (suc e) u n p q =
    go (eqb n 0) refl (λ some. enough d e (u ⊗ u) (n / 2) (omega (arith, some)) (omega (arith, some))) (λ some. enough d e u (n - 1) (omega (arith, some)) (omega (arith, some)))
  where
    go : (t : Bool) → eqb n 0 ≡ t → ((n ≡ 0 → ⊥) → power_in d (u ⊗ u) (n / 2) ≡ power_in e (u ⊗ u) (n / 2)) → ((n ≡ 0 → ⊥) → power_in d u (n - 1) ≡ power_in e u (n - 1)) →
        once t (eqb (n % 2) 0) u (power_in d (u ⊗ u) (n / 2)) (power_in d u (n - 1)) ≡ once t (eqb (n % 2) 0) u (power_in e (u ⊗ u) (n / 2)) (power_in e u (n - 1))
    go true h half less = refl
    go false h half less =
        let some = eqb-false n 0 h in
        ap (λ (x : Float). cond (eqb (n % 2) 0) x (u ⊗ power_in d u (n - 1))) (half some)
        ∙ ap (λ (x : Float). cond (eqb (n % 2) 0) (power_in e (u ⊗ u) (n / 2)) (u ⊗ x)) (less some)

pub power_0 : (u : Float) → power u 0 ≡ one_f
unfolding power power_in
power_0 u = refl

pub power_even : (u : Float) (n : ℕ) → (n ≡ 0 → ⊥) → n % 2 ≡ 0 → power u n ≡ power (u ⊗ u) (n / 2)
unfolding power power_in
power_even u zero some e = absurd (some refl)
power_even u (suc m) some e =
    ap (λ (t : Bool). once t (eqb (suc m % 2) 0) u (power_in m (u ⊗ u) (suc m / 2)) (power_in m u (suc m - 1))) (ne_eqb (suc m) 0 some)
    ∙ ap (λ (t : Bool). once false t u (power_in m (u ⊗ u) (suc m / 2)) (power_in m u (suc m - 1))) (eq-eqb (suc m % 2) 0 e)
    ∙ enough m (suc m / 2) (u ⊗ u) (suc m / 2) (omega arith) (omega arith)

pub power_odd : (u : Float) (n : ℕ) → (n % 2 ≡ 0 → ⊥) → power u n ≡ u ⊗ power u (n - 1)
unfolding power power_in
power_odd u zero odd = absurd (odd refl)
power_odd u (suc m) odd =
    ap (λ (t : Bool). once t (eqb (suc m % 2) 0) u (power_in m (u ⊗ u) (suc m / 2)) (power_in m u (suc m - 1))) (ne_eqb (suc m) 0 (λ z. omega arith))
    ∙ ap (λ (t : Bool). once false t u (power_in m (u ⊗ u) (suc m / 2)) (power_in m u (suc m - 1))) (ne_eqb (suc m % 2) 0 odd)
    ∙ ap (λ (x : Float). u ⊗ x) (enough m (suc m - 1) u (suc m - 1) (omega arith) (omega arith))
