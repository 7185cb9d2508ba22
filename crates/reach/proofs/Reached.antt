-- That a change reaches no farther than one cell a step. Assumes nothing.
use Prim.Native.Nat.{ℕ, zero, suc, ◌+◌, ◌*◌, ◌/◌, ◌%◌, ◌≤◌, ◌<◌}
use native.Mathlib.Nat.{mul_comm, zero-mul, mod-lt, mod-add-div, div-lt_iff_lt-mul}
use native.Mathlib.Omega.{arith}
use mathlib.Core.Path.{◌≡◌, refl, ap, subst, ◌∙◌}
use mathlib.Core.Logic.{inl}
use mathlib.Core.List.{List, [], ◌∷◌}
use lib.ListN.{length, get_or}
use lib.Ieee.{Float}
use Rattle.root.specs.Rounded.{◌⊗◌}
use Rattle.root.proofs.Sums.{summed_same}
use Rattle.cells.specs.Cells.{cell_index}
use Rattle.grid.specs.declared.Record.{Record}
use Rattle.grid.specs.Stores.{Stores, lengths_of, Outcome, outcome, settle, cells}
use Rattle.grid.proofs.Judging.{poles_at}
use Rattle.fields.specs.Fields.{plane_at, plane_of}
use Rattle.step.specs.Step.{step_fault, stepped, ticked, step_call}
use Rattle.step.proofs.Judged.{ready}
use Rattle.run.specs.Run.{ran, run_call}
use Rattle.reach.specs.Reach.{is_periodic, distance, SameCell, SameWithin, Accepted, after, Reach}
use Rattle.reach.proofs.Near.{near_apart}
use Rattle.reach.proofs.Hoods.{Cell, cell_at, index, Hood}
use Rattle.reach.proofs.Once.{Alike, Few, stepped_alike}

-- ---- from distances to bounds, and back at the cell itself
abbrev In : Record → Cell → Type 0
In r o = (o.i < r.nx) × (o.j < r.ny) × (o.k < r.nz)

itself : (r : Record) (o : Cell) → In r o → Hood r o 0 0 o
itself r o l zero = (l.0, inl (omega arith, omega arith))
itself r o l (suc zero) = (l.1, inl (omega arith, omega arith))
itself r o l (suc (suc b)) = (l.2, inl (omega arith, omega arith))

near_enough : (r : Record) (o : Cell) → In r o → (n : ℕ) (p : Cell) → Hood r o n n p → distance r o.i o.j o.k p.i p.j p.k ≤ n
unfolding distance
near_enough r o l n p h =
    let a = near_apart (is_periodic r 0) r.nx n o.i p.i l.0 (h 0).0 (h 0).1 in
    let b = near_apart (is_periodic r 1) r.ny n o.j p.j l.1 (h 1).0 (h 1).1 in
    let c = near_apart (is_periodic r 2) r.nz n o.k p.k l.2 (h 2).0 (h 2).1 in
    omega (arith, a, b, c)

alike_within : (r : Record) (o : Cell) → In r o → (n : ℕ) (s t : Stores) → SameWithin r n o.i o.j o.k s t → Alike r o n n s t
alike_within r o l n s t w = record {
  tables = w.tables;
  aux = w.aux;
  electric = λ c b p h. (cell p h).electric c b;
  magnetic = λ c b p h. (cell p h).magnetic c b;
  media = λ c b p h. (cell p h).media c b;
  psi_e = λ c b p h. (cell p h).psi_e c b;
  psi_h = λ c b p h. (cell p h).psi_h c b;
  poles = λ c b p h. (cell p h).poles c b;
  ids = λ p h. (cell p h).id;
}
  where
    cell : (p : Cell) → Hood r o n n p → SameCell r (index r p) s t
    cell p h = w.near p.i p.j p.k (h 0).0 (h 1).0 (h 2).0 (near_enough r o l n p h)

the_cell : (r : Record) (o : Cell) → In r o → (s t : Stores) → Alike r o 0 0 s t → SameCell r (index r o) s t
the_cell r o l s t a = record {
  media = λ c b. a.media c b o (itself r o l);
  id = a.ids o (itself r o l);
  electric = λ c b. a.electric c b o (itself r o l);
  magnetic = λ c b. a.magnetic c b o (itself r o l);
  psi_e = λ c b. a.psi_e c b o (itself r o l);
  psi_h = λ c b. a.psi_h c b o (itself r o l);
  poles = λ c b. a.poles c b o (itself r o l);
}

-- ---- the clock is no matter
ticked_alike : (r : Record) (o : Cell) (lo hi : ℕ) (s t : Stores) → Alike r o lo hi s t → Alike (ticked r) o lo hi s t
ticked_alike r o lo hi s t a = record {
  tables = a.tables;
  aux = a.aux;
  electric = a.electric;
  magnetic = a.magnetic;
  media = a.media;
  psi_e = a.psi_e;
  psi_h = a.psi_h;
  poles = a.poles;
  ids = a.ids;
}

same_ticked : (r : Record) (m : ℕ) (s t : Stores) → SameCell (ticked r) m s t → SameCell r m s t
same_ticked r m s t a = record { media = a.media; id = a.id; electric = a.electric; magnetic = a.magnetic; psi_e = a.psi_e; psi_h = a.psi_h; poles = a.poles }

module _ (eps0 mu0 c0 : Float) where
  -- ---- any number of steps: each one costs a cell on every side
  few_on : (r : Record) (x : Float) (s : Stores) → Few r s.ids → Few (ticked r) (stepped eps0 mu0 c0 r x s).ids
  unfolding stepped
  few_on r x s f = f

  many : (xs : List Float) (r : Record) (o : Cell) → In r o → (s t : Stores) → Alike r o (length xs) (length xs) s t → Few r s.ids
      → SameCell r (index r o) (ran eps0 mu0 c0 r xs s).rest (ran eps0 mu0 c0 r xs t).rest
  unfolding ran
  many [] r o l s t a few = the_cell r o l s t a
  many (x ∷ xs) r o l s t a few =
      let n = length xs in
      let one : Alike r o n n (stepped eps0 mu0 c0 r x s) (stepped eps0 mu0 c0 r x t) =
      stepped_alike eps0 mu0 c0 r x o (itself r o l) n n s t (subst (λ (m : ℕ). Alike r o m m s t) (omega arith) a) few in
      same_ticked r (index r o) _ _ (many xs (ticked r) o l (stepped eps0 mu0 c0 r x s) (stepped eps0 mu0 c0 r x t) (ticked_alike r o n n _ _ one) (few_on r x s few))

  within : (xs : List Float) (r : Record) (i j k : ℕ) → i < r.nx → j < r.ny → k < r.nz → (s t : Stores) → SameWithin r (length xs) i j k s t → Few r s.ids
      → SameCell r (cell_index r.nx r.ny i j k) (ran eps0 mu0 c0 r xs s).rest (ran eps0 mu0 c0 r xs t).rest
  within xs r i j k x y z s t w few = many xs r (cell_at i j k) (x, y, z) s t (alike_within r (cell_at i j k) (x, y, z) (length xs) s t w) few

  -- ---- an accepted call, of one step or of many
  none : (f : ℕ) (r q : Record) (s t : Stores) → (settle f r s q t).refusal ≡ 0 → f ≡ 0
  none zero r q s t e = refl
  none (suc f) r q s t e = absurd (omega arith)

  few_of : (r : Record) (s : Stores) (n : ℕ) → step_fault r (lengths_of s) s.ids n ≡ 0 → Few r s.ids
  few_of r s n e b m h = let p = (ready r s n e).0.polar in poles_at r (get_or s.ids m 0) p.fit (p.known b m h)

  step_none : (r : Record) (x : Float) (s : Stores) → (step_call eps0 mu0 c0 r x s).refusal ≡ 0 → step_fault r (lengths_of s) s.ids 1 ≡ 0
  unfolding step_call
  step_none r x s e = none (step_fault r (lengths_of s) s.ids 1) r (ticked r) s (stepped eps0 mu0 c0 r x s) e

  step_is : (r : Record) (x : Float) (s : Stores) → step_fault r (lengths_of s) s.ids 1 ≡ 0 → step_call eps0 mu0 c0 r x s ≡ outcome 0 (ticked r) (stepped eps0 mu0 c0 r x s)
  unfolding step_call
  step_is r x s e = ap (λ (f : ℕ). settle f r s (ticked r) (stepped eps0 mu0 c0 r x s)) e

  -- of which none is refused, they are the steps of a run
  after_is : (xs : List Float) (r : Record) (s : Stores) → Accepted eps0 mu0 c0 r xs s → after eps0 mu0 c0 r xs s ≡ (ran eps0 mu0 c0 r xs s).rest
  unfolding ran
  after_is [] r s a = refl
  after_is (x ∷ xs) r s a =
      let e = step_is r x s (step_none r x s a.0) in
      let rest : Accepted eps0 mu0 c0 (ticked r) xs (stepped eps0 mu0 c0 r x s) = subst (λ (o : Outcome Stores). Accepted eps0 mu0 c0 o.study xs o.rest) e a.1 in
      ap (λ (o : Outcome Stores). after eps0 mu0 c0 o.study xs o.rest) e ∙ after_is xs (ticked r) (stepped eps0 mu0 c0 r x s) rest

  run_none : (r : Record) (xs : List Float) (s : Stores) → (run_call eps0 mu0 c0 r xs s).refusal ≡ 0 → step_fault r (lengths_of s) s.ids (length xs) ≡ 0
  unfolding run_call
  run_none r xs s e = none (step_fault r (lengths_of s) s.ids (length xs)) r (ran eps0 mu0 c0 r xs s).study s (ran eps0 mu0 c0 r xs s).rest e

  run_is : (r : Record) (xs : List Float) (s : Stores) → (run_call eps0 mu0 c0 r xs s).refusal ≡ 0 → (run_call eps0 mu0 c0 r xs s).rest ≡ (ran eps0 mu0 c0 r xs s).rest
  unfolding run_call
  run_is r xs s e = ap (λ (f : ℕ). (settle f r s (ran eps0 mu0 c0 r xs s).study (ran eps0 mu0 c0 r xs s).rest).rest) (run_none r xs s e)

  -- ---- the three claims
  by_run_lem : (r : Record) (xs : List Float) (s t : Stores) (i j k : ℕ) → i < r.nx → j < r.ny → k < r.nz
      → SameWithin r (length xs) i j k s t → (run_call eps0 mu0 c0 r xs s).refusal ≡ 0 → (run_call eps0 mu0 c0 r xs t).refusal ≡ 0
      → SameCell r (cell_index r.nx r.ny i j k) (run_call eps0 mu0 c0 r xs s).rest (run_call eps0 mu0 c0 r xs t).rest
  by_run_lem r xs s t i j k x y z w p q =
      rw (run_is r xs s p, run_is r xs t q) (within xs r i j k x y z s t w (few_of r s (length xs) (run_none r xs s p)))

  by_steps : (r : Record) (xs : List Float) (s t : Stores) (i j k : ℕ) → i < r.nx → j < r.ny → k < r.nz
      → SameWithin r (length xs) i j k s t → Accepted eps0 mu0 c0 r xs s → Accepted eps0 mu0 c0 r xs t
      → SameCell r (cell_index r.nx r.ny i j k) (after eps0 mu0 c0 r xs s) (after eps0 mu0 c0 r xs t)
  by_steps r [] s t i j k x y z w p q = the_cell r (cell_at i j k) (x, y, z) s t (alike_within r (cell_at i j k) (x, y, z) 0 s t w)
  by_steps r (a ∷ xs) s t i j k x y z w p q =
      rw (after_is (a ∷ xs) r s p, after_is (a ∷ xs) r t q) (within (a ∷ xs) r i j k x y z s t w (few_of r s 1 (step_none r a s p.0)))

-- ---- the reading: number m of the plane k is the cell (m % nx, m / nx, k)
plane_place : (nx ny m k : ℕ) → cell_index nx ny (m % nx) (m / nx) k ≡ k * (nx * ny) + m
plane_place nx ny m k =
    let e : m % nx + m / nx * nx ≡ m = ap (λ (q : ℕ). m % nx + q) (mul_comm (m / nx) nx) ∙ mod-add-div m nx in
    omega arith

some_x : (nx ny m : ℕ) → m < nx * ny → 0 < nx
some_x zero ny m l = let z : zero * ny ≡ 0 = zero-mul ny in absurd (omega arith)
some_x (suc nx) ny m l = omega arith

row_in : (nx ny m : ℕ) → m < nx * ny → m / nx < ny
row_in nx ny m l = (div-lt_iff_lt-mul (some_x nx ny m l)).1 (subst (λ (q : ℕ). m < q) (mul_comm nx ny) l)

product : {a a' b b' : Float} → a ≡ a' → b ≡ b' → a ⊗ b ≡ a' ⊗ b'
product p q = rw (p, q)

module _ (r : Record) (k : ℕ) (s t : Stores) (same : (i j : ℕ) → i < r.nx → j < r.ny → SameCell r (cell_index r.nx r.ny i j k) s t) where
  plane_cell : (m : ℕ) → m < r.nx * r.ny → SameCell r (k * (r.nx * r.ny) + m) s t
  plane_cell m l =
      subst (λ (q : ℕ). SameCell r q s t) (plane_place r.nx r.ny m k) (same (m % r.nx) (m / r.nx) (mod-lt m (some_x r.nx r.ny m l)) (row_in r.nx r.ny m l))

  plane_same : plane_of r k s.electric s.magnetic ≡ plane_of r k t.electric t.magnetic
  unfolding plane_of plane_at
  plane_same =
      product (summed_same (r.nx * r.ny) (plane_at r.nx r.ny (cells r) k s.electric s.magnetic) (plane_at r.nx r.ny (cells r) k t.electric t.magnetic)
      (λ m l. product ((plane_cell m l).electric 0 (omega arith)) ((plane_cell m l).magnetic 1 (omega arith)))) refl

pub reached : Reach
reached = record {
  steps = by_steps;
  run = by_run_lem;
  reading = λ eps0 mu0 c0 r xs s t k z w p q. plane_same r k _ _ (λ i j x y. by_run_lem eps0 mu0 c0 r xs s t i j k x y z (w i j x y) p q);
}
