-- A place near another on one axis, by two bounds, so that the next place costs the upper bound one and the place before it the lower one. Assumes nothing.
use Prim.Native.Nat.{ℕ, ◌+◌, ◌-◌, ◌≤◌, ◌<◌}
use native.Mathlib.Omega.{arith}
use mathlib.Core.Path.{◌≡◌, refl, sym}
use mathlib.Core.Bool.{Bool, true, false, cond, not, ◌&&◌, ◌||◌, true≢false}
use mathlib.Core.Logic.{◌⊎◌, inl, inr, ⊎_elim}
use lib.Dec.{ltb, eqb}
use borrow.Author.Tests.{ltb-false, eqb-true, eqb-false}
use Rattle.fdtd.specs.Axes.{next_of, previous_of}
use Rattle.reach.specs.Reach.{places_apart}

-- p lies at most lo below c and at most hi above it; or so where p is counted one round on, or one round back
abbrev pub Near : (wraps : Bool) → (n lo hi c p : ℕ) → Type 0
Near w n lo hi c p = ((c ≤ p + lo) × (p ≤ c + hi)) ⊎ ((w ≡ true) × ((p + n ≤ c + hi) ⊎ (c + n ≤ p + lo)))

or_rest : (a b : Bool) → (a || b) ≡ true → a ≡ false → b ≡ true
or_rest true b e f = absurd (true≢false f)
or_rest false b e f = e

-- off the walls, the first place is one of an axis that goes round
round_at_0 : (w a b : Bool) → (not w && (a || b)) ≡ false → a ≡ true → w ≡ true
round_at_0 true a b e f = refl
round_at_0 false true b e f = absurd (true≢false e)
round_at_0 false false b e f = absurd (true≢false (sym f))

module _ (w : Bool) (n lo hi c p : ℕ) (in_p : p < n) (in_c : c < n) (h : Near w n lo hi c p) where
  pub near_next : (ltb (p + 1) n || w) ≡ true → Near w n lo (hi + 1) c (next_of p n)
  near_next has = go (ltb (p + 1) n) refl
    where
      go : (b : Bool) → ltb (p + 1) n ≡ b → Near w n lo (hi + 1) c (cond b (p + 1) 0)
      go true e =
          ⊎_elim (λ (d : (c ≤ p + lo) × (p ≤ c + hi)). inl (omega arith))
          (λ (d : (w ≡ true) × ((p + n ≤ c + hi) ⊎ (c + n ≤ p + lo))). inr (d.0, ⊎_elim (λ (x : p + n ≤ c + hi). inl (omega arith)) (λ (x : c + n ≤ p + lo). inr (omega arith)) d.1)) h
      go false e =
          let end = ltb-false (p + 1) n e in
          let rounds = or_rest (ltb (p + 1) n) w has e in
          ⊎_elim (λ (d : (c ≤ p + lo) × (p ≤ c + hi)). inr (rounds, inl (omega arith)))
          (λ (d : (w ≡ true) × ((p + n ≤ c + hi) ⊎ (c + n ≤ p + lo))). ⊎_elim (λ (x : p + n ≤ c + hi). inr (rounds, inl (omega arith))) (λ (x : c + n ≤ p + lo). inl (omega arith)) d.1) h

  pub near_previous : (not w && (eqb p 0 || eqb p (n - 1))) ≡ false → Near w n (lo + 1) hi c (previous_of p n)
  near_previous off = go (eqb p 0) refl
    where
      go : (b : Bool) → eqb p 0 ≡ b → Near w n (lo + 1) hi c (cond b (n - 1) (p - 1))
      go true e =
          let first = eqb-true p 0 e in
          let rounds = round_at_0 w (eqb p 0) (eqb p (n - 1)) off e in
          ⊎_elim (λ (d : (c ≤ p + lo) × (p ≤ c + hi)). inr (rounds, inr (omega arith)))
          (λ (d : (w ≡ true) × ((p + n ≤ c + hi) ⊎ (c + n ≤ p + lo))). ⊎_elim (λ (x : p + n ≤ c + hi). inl (omega arith)) (λ (x : c + n ≤ p + lo). inr (rounds, inr (omega arith))) d.1) h
      go false e =
          let later = eqb-false p 0 e in
          ⊎_elim (λ (d : (c ≤ p + lo) × (p ≤ c + hi)). inl (omega arith))
          (λ (d : (w ≡ true) × ((p + n ≤ c + hi) ⊎ (c + n ≤ p + lo))). inr (d.0, ⊎_elim (λ (x : p + n ≤ c + hi). inl (omega arith)) (λ (x : c + n ≤ p + lo). inr (omega arith)) d.1)) h

-- wider bounds
pub near_wider : (w : Bool) (n lo hi lo' hi' c p : ℕ) → lo ≤ lo' → hi ≤ hi' → Near w n lo hi c p → Near w n lo' hi' c p
near_wider w n lo hi lo' hi' c p a b =
    ⊎_elim (λ (d : (c ≤ p + lo) × (p ≤ c + hi)). inl (omega arith))
    (λ (d : (w ≡ true) × ((p + n ≤ c + hi) ⊎ (c + n ≤ p + lo))). inr (d.0, ⊎_elim (λ (x : p + n ≤ c + hi). inl (omega arith)) (λ (x : c + n ≤ p + lo). inr (omega arith)) d.1))

-- equal bounds are a distance
pub near_apart : (w : Bool) (n m c p : ℕ) → c < n → p < n → Near w n m m c p → places_apart w n c p ≤ m
unfolding places_apart
near_apart true n m c p a b (inl d) = omega arith
near_apart true n m c p a b (inr d) = ⊎_elim (λ (x : p + n ≤ c + m). omega arith) (λ (x : c + n ≤ p + m). omega arith) d.1
near_apart false n m c p a b (inl d) = omega arith
near_apart false n m c p a b (inr d) = absurd (true≢false (sym d.0))
