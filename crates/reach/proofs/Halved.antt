-- The two half steps near a cell: the magnetic one needs the other field one cell farther up, the electric one one cell farther down. Assumes nothing.
use Prim.Native.Nat.{ℕ, ◌+◌, ◌*◌, ◌/◌, ◌<◌}
use native.Mathlib.Omega.{arith}
use mathlib.Core.Path.{◌≡◌, refl, sym}
use mathlib.Core.Bool.{Bool, true, false, not, ◌||◌, true≢false}
use mathlib.Core.List.{List}
use lib.Ieee.{Float}
use Rattle.grid.specs.declared.Record.{Record}
use Rattle.grid.specs.Stores.{number_at, cells}
use Rattle.grid.proofs.Tests.{and_left, and_right}
use Rattle.fdtd.specs.Axes.{axis, turn, has_next, walled}
use Rattle.fdtd.specs.Halves.{half_h, half_e, moves_at, psi_after, magnetic_after, electric_after}
use Rattle.fdtd.proofs.Depends.{CurlEnds, turn_less, magnetic_same, electric_same, psi_same}
use Rattle.reach.proofs.Hoods.{Cell, index, on, Hood, wider, Same, next_same, previous_same}

neither : (a b : Bool) → not (a || b) ≡ true → (a ≡ false) × (b ≡ false)
neither true b e = absurd (true≢false (sym e))
neither false true e = absurd (true≢false (sym e))
neither false false e = (refl, refl)

module _ (r : Record) (tables : List Float) (o : Cell) (inside : Hood r o 0 0 o) (lo hi : ℕ) where
  -- ---- the magnetic half
  module _ (e e' psi psi' : List Float) (es : Same r o lo (hi + 1) 3 e e') (ps : Same r o lo hi 6 psi psi') where
    ends_h : (p : Cell) → Hood r o lo hi p → (a : ℕ) → moves_at half_h r e tables psi a p.i p.j p.k ≡ true → CurlEnds half_h r e e' a p.i p.j p.k
    unfolding moves_at
    ends_h p h a m =
        let B = turn a in
        let C = turn (turn a) in
        let own : (c : ℕ) → c < 3 → number_at e (cells r) c (index r p) ≡ number_at e' (cells r) c (index r p) = λ c l. es c l p (wider r o lo hi lo (hi + 1) p (omega arith) (omega arith) h) in
        let one = and_left (has_next (axis r 3 B) (on B p)) (has_next (axis r 3 C) (on C p)) m in
        let two = and_right (has_next (axis r 3 B) (on B p)) (has_next (axis r 3 C) (on C p)) m in (
          (own C (turn_less B), next_same r o inside lo hi p h e e' 3 es 3 B one C (turn_less B)),
          (own B (turn_less a), next_same r o inside lo hi p h e e' 3 es 3 C two B (turn_less a)),
        )

    pub magnetic_near : (mu0 : Float) (media media' h h' : List Float) → Same r o lo hi 3 media media' → Same r o lo hi 3 h h' →
        Same r o lo hi 3 (magnetic_after mu0 r e media tables psi h) (magnetic_after mu0 r e' media' tables psi' h')
    magnetic_near mu0 media media' h h' ms hs a l p n =
        magnetic_same r tables p.i p.j p.k (n 0).0 (n 1).0 (n 2).0 mu0 e e' media media' psi psi' h h' a l (ends_h p n a)
        (ps (2 * a) (omega arith) p n) (ps (2 * a + 1) (omega arith) p n) (ms 1 (omega arith) p n) (hs a l p n)

    pub psi_h_near : Same r o lo hi 6 (psi_after half_h r e tables psi) (psi_after half_h r e' tables psi')
    psi_h_near m l p n = psi_same r tables p.i p.j p.k (n 0).0 (n 1).0 (n 2).0 half_h e e' psi psi' m l (ends_h p n (m / 2)) (ps m l p n)

  -- ---- the electric half
  module _ (h h' psi psi' : List Float) (hs : Same r o (lo + 1) hi 3 h h') (ps : Same r o lo hi 6 psi psi') where
    ends_e : (p : Cell) → Hood r o lo hi p → (a : ℕ) → moves_at half_e r h tables psi a p.i p.j p.k ≡ true → CurlEnds half_e r h h' a p.i p.j p.k
    unfolding moves_at
    ends_e p n a m =
        let B = turn a in
        let C = turn (turn a) in
        let own : (c : ℕ) → c < 3 → number_at h (cells r) c (index r p) ≡ number_at h' (cells r) c (index r p) = λ c l. hs c l p (wider r o lo hi (lo + 1) hi p (omega arith) (omega arith) n) in
        let off = neither (walled (axis r 0 B) (on B p)) (walled (axis r 0 C) (on C p)) m in (
          (previous_same r o inside lo hi p n h h' 3 hs B off.0 C (turn_less B), own C (turn_less B)),
          (previous_same r o inside lo hi p n h h' 3 hs C off.1 B (turn_less a), own B (turn_less a)),
        )

    pub electric_near : (eps0 : Float) (media media' : List Float) (dp dp' : ℕ → ℕ → Float) (e e' : List Float) → Same r o lo hi 3 media media'
        → ((a : ℕ) → a < 3 → (p : Cell) → Hood r o lo hi p → dp a (index r p) ≡ dp' a (index r p))
        → Same r o lo hi 3 e e' → Same r o lo hi 3 (electric_after eps0 r h media tables dp psi e) (electric_after eps0 r h' media' tables dp' psi' e')
    electric_near eps0 media media' dp dp' e e' ms ds es a l p n =
        electric_same r tables p.i p.j p.k (n 0).0 (n 1).0 (n 2).0 eps0 h h' media media' dp dp' psi psi' e e' a l (ends_e p n a)
        (ps (2 * a) (omega arith) p n) (ps (2 * a + 1) (omega arith) p n) (ms 0 (omega arith) p n) (ms 2 (omega arith) p n) (ds a l p n) (es a l p n)

    pub psi_e_near : Same r o lo hi 6 (psi_after half_e r h tables psi) (psi_after half_e r h' tables psi')
    psi_e_near m l p n = psi_same r tables p.i p.j p.k (n 0).0 (n 1).0 (n 2).0 half_e h h' psi psi' m l (ends_e p n (m / 2)) (ps m l p n)
