-- What the polarizations' step reads for one number of the pole store: its own cell's id, and of its own component E and the p of each slot. Number n of 6S + 3 belongs to the
-- component n % 3. Two studies that agree in that agree in the number after the step. Assumes nothing.
use Prim.Native.Nat.{ℕ, ◌+◌, ◌-◌, ◌*◌, ◌/◌, ◌%◌, ◌≤◌, ◌<◌}
use native.Mathlib.Omega.{arith}
use mathlib.Core.Path.{◌≡◌, refl, sym, ap, ◌∙◌}
use mathlib.Core.Bool.{Bool, true, false, cond}
use mathlib.Core.List.{List}
use lib.Dec.{ltb, eqb}
use lib.ListN.{get_or}
use lib.Ieee.{Float, nan}
use borrow.Author.Tests.{ltb-true, ltb-false}
use Rattle.root.specs.Rounded.{◌⊖◌, zero_f, summed}
use Rattle.root.proofs.Sums.{summed_same}
use Rattle.dispersion.specs.Ade.{ade_coeffs}
use Rattle.cells.specs.Reading.{rows_at}
use Rattle.grid.specs.declared.Record.{Record}
use Rattle.grid.specs.Fault.{pole_count}
use Rattle.grid.specs.Stores.{number_at, cells}
use Rattle.ade.specs.Polarization.{polarized, pole_at, pole_count_at, p_old, p_prev, p_new, p_after, p_prev_after, dp_after, pole_number, poles_after, delta_p}

pub number_after : (eps0 : Float) (r : Record) (ids : List ℕ) (e poles : List Float) (n m : ℕ) → n < 6 * r.pole_slots + 3 → m < cells r →
    number_at (poles_after eps0 r ids e poles) (cells r) n m ≡ pole_number eps0 r ids e poles n m
unfolding poles_after
number_after eps0 r ids e poles n m p q = rows_at nan (6 * r.pole_slots + 3) (cells r) (pole_number eps0 r ids e poles) n m p q

change : {x x' y y' : Float} → x ≡ x' → y ≡ y' → x ⊖ y ≡ x' ⊖ y'
change p q = rw (p, q)

-- component c of the cell with the index m
module _ (eps0 : Float) (r : Record) (ids ids' : List ℕ) (e e' poles poles' : List Float) (c m : ℕ) (l : c < 3) (id : get_or ids m 0 ≡ get_or ids' m 0)
    (es : number_at e (cells r) c m ≡ number_at e' (cells r) c m)
    (ps : (n : ℕ) → n < 6 * r.pole_slots + 3 → n % 3 ≡ c → number_at poles (cells r) n m ≡ number_at poles' (cells r) n m)
    (few : pole_count r (get_or ids m 0) ≤ r.pole_slots) where
  abbrev S : ℕ
  S = r.pole_slots

  old_same : (slot : ℕ) → slot < S → p_old eps0 r ids e poles slot c m ≡ p_old eps0 r ids' e' poles' slot c m
  old_same slot h = ps (3 * slot + c) (omega arith) (omega arith)

  prev_same : (slot : ℕ) → slot < S → p_prev eps0 r ids e poles slot c m ≡ p_prev eps0 r ids' e' poles' slot c m
  prev_same slot h = ps (3 * S + (3 * slot + c)) (omega arith) (omega arith)

  polarized_same : (slot : ℕ) {x x' y y' z z' : Float} → x ≡ x' → y ≡ y' → z ≡ z' →
      polarized (ade_coeffs eps0 r.spacings.dt (pole_at r (get_or ids m 0) slot)) x y z ≡ polarized (ade_coeffs eps0 r.spacings.dt (pole_at r (get_or ids' m 0) slot)) x' y' z'
  polarized_same slot p q s = rw (id, p, q, s)

  new_same : (slot : ℕ) → slot < S → p_new eps0 r ids e poles slot c m ≡ p_new eps0 r ids' e' poles' slot c m
  unfolding p_new
  new_same slot h = polarized_same slot (old_same slot h) (prev_same slot h) es

  counted_same : (slot : ℕ) {x x' y y' : Float} → x ≡ x' → y ≡ y' → cond (ltb slot (pole_count_at eps0 r ids e poles m)) x y ≡ cond (ltb slot (pole_count_at eps0 r ids' e' poles' m)) x' y'
  counted_same slot p q = rw (id, p, q)

  dp_same : dp_after eps0 r ids e poles c m ≡ dp_after eps0 r ids' e' poles' c m
  unfolding dp_after
  dp_same =
      summed_same (pole_count_at eps0 r ids e poles m) _ _ (λ slot h. change (new_same slot (omega arith)) (old_same slot (omega arith)))
      ∙ ap (λ (n : ℕ). summed n (λ slot. p_new eps0 r ids' e' poles' slot c m ⊖ p_old eps0 r ids' e' poles' slot c m)) (ap (pole_count r) id)

-- number n of the cell with the index m
module _ (eps0 : Float) (r : Record) (ids ids' : List ℕ) (e e' poles poles' : List Float) (n m : ℕ) (l : n < 6 * r.pole_slots + 3) (id : get_or ids m 0 ≡ get_or ids' m 0)
    (es : number_at e (cells r) (n % 3) m ≡ number_at e' (cells r) (n % 3) m)
    (ps : (p : ℕ) → p < 6 * r.pole_slots + 3 → p % 3 ≡ n % 3 → number_at poles (cells r) p m ≡ number_at poles' (cells r) p m)
    (few : pole_count r (get_or ids m 0) ≤ r.pole_slots) where
  abbrev P : ℕ
  P = r.pole_slots

  pub number_same : pole_number eps0 r ids e poles n m ≡ pole_number eps0 r ids' e' poles' n m
  unfolding pole_number
  number_same = go (ltb n (3 * P)) (ltb n (2 * (3 * P))) refl refl
    where
      back : (p : ℕ) → p % 3 ≡ n % 3 → number_at e (cells r) (p % 3) m ≡ number_at e' (cells r) (p % 3) m
      back p q = ap (λ (c : ℕ). number_at e (cells r) c m) q ∙ es ∙ ap (λ (c : ℕ). number_at e' (cells r) c m) (sym q)

      go : (a b : Bool) → ltb n (3 * P) ≡ a → ltb n (2 * (3 * P)) ≡ b →
          cond a (p_after eps0 r ids e poles (n / 3) (n % 3) m) (cond b (p_prev_after eps0 r ids e poles ((n - 3 * P) / 3) ((n - 3 * P) % 3) m) (dp_after eps0 r ids e poles (n - 2 * (3 * P)) m))
          ≡ cond a (p_after eps0 r ids' e' poles' (n / 3) (n % 3) m) (cond b (p_prev_after eps0 r ids' e' poles' ((n - 3 * P) / 3) ((n - 3 * P) % 3) m) (dp_after eps0 r ids' e' poles' (n - 2 * (3 * P)) m))
      go true b p q =
          let h = ltb-true n (3 * P) p in
          counted_same eps0 r ids ids' e e' poles poles' (n % 3) m (omega arith) id es ps few (n / 3)
          (new_same eps0 r ids ids' e e' poles poles' (n % 3) m (omega arith) id es ps few (n / 3) (omega arith))
          (old_same eps0 r ids ids' e e' poles poles' (n % 3) m (omega arith) id es ps few (n / 3) (omega arith))
      go false true p q =
          let h = ltb-true n (2 * (3 * P)) q in
          let g = ltb-false n (3 * P) p in
          let t : (n - 3 * P) % 3 ≡ n % 3 = omega arith in
          let s = (n - 3 * P) / 3 in
          let ps' : (p : ℕ) → p < 6 * P + 3 → p % 3 ≡ (n - 3 * P) % 3 → number_at poles (cells r) p m ≡ number_at poles' (cells r) p m = λ p b u. ps p b (u ∙ t) in
          counted_same eps0 r ids ids' e e' poles poles' ((n - 3 * P) % 3) m (omega arith) id (back (n - 3 * P) t) ps' few s
          (old_same eps0 r ids ids' e e' poles poles' ((n - 3 * P) % 3) m (omega arith) id (back (n - 3 * P) t) ps' few s (omega arith))
          (prev_same eps0 r ids ids' e e' poles poles' ((n - 3 * P) % 3) m (omega arith) id (back (n - 3 * P) t) ps' few s (omega arith))
      go false false p q =
          let h = ltb-false n (2 * (3 * P)) q in
          let t : n - 2 * (3 * P) ≡ n % 3 = omega arith in
          let es' : number_at e (cells r) (n - 2 * (3 * P)) m ≡ number_at e' (cells r) (n - 2 * (3 * P)) m = ap (λ (c : ℕ). number_at e (cells r) c m) t ∙ es ∙ ap (λ (c : ℕ). number_at e' (cells r) c m) (sym t) in
          dp_same eps0 r ids ids' e e' poles poles' (n - 2 * (3 * P)) m (omega arith) id es' (λ p b u. ps p b (u ∙ t)) few

-- what E takes for dp
pub delta_same : (r : Record) (poles poles' : List Float) (c m : ℕ) → number_at poles (cells r) (6 * r.pole_slots + c) m ≡ number_at poles' (cells r) (6 * r.pole_slots + c) m →
    delta_p r poles c m ≡ delta_p r poles' c m
unfolding delta_p
delta_same r poles poles' c m e = ap (cond (eqb r.built_count 0) zero_f) e
