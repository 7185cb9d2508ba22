-- A call's two ends, refused and accepted, and what is known where none of the four first faults stands. Assumes nothing.
use Prim.Native.Nat.{ℕ, zero, suc}
use native.Mathlib.Omega.{arith}
use mathlib.Core.Path.{◌≡◌, refl, ap, ◌∙◌}
use mathlib.Core.Bool.{Bool, true, ◌&&◌}
use borrow.Author.Tests.{eqb-true}
use Rattle.std.proofs.Common.{Result, IsErr}
use Rattle.refusals.specs.declared.Refusal.{Refusal}
use Rattle.refusals.specs.Refusals.{code, value_or}
use Rattle.refusals.proofs.Numbers.{some, stands_in}
use Rattle.grid.specs.declared.Record.{Record}
use Rattle.grid.specs.declared.stores.Lengths.{Lengths}
use Rattle.grid.specs.Fault.{fault_of}
use Rattle.grid.specs.Inner.Sound.{Sound}
use Rattle.grid.specs.Stores.{outcome, settle, or_else, store_lengths, same_lengths, lent_fault, fault_lent, fault_with}
use Rattle.grid.proofs.Tests.{and_left, and_right, first_none, or_none}
use Rattle.grid.proofs.Judging.{sound}

-- f is the fault n of a definition, and it is one, or none
pub turned_down : {A : Type 0} (f n : ℕ) (r r' : Record) (s s' : A) → f ≡ n → (f ≡ 0 → ⊥) → outcome f r s ≡ settle n r s r' s'
turned_down f zero r r' s s' e h = absurd (h e)
turned_down f (suc n) r r' s s' e h = rw e

-- f is what a call answers: it has a refusal, or none
pub refused_with : {A B : Type 0} (x : Result B Refusal) {n : ℕ} {r : Record} (r' : Record) {s : A} (s' : A) → IsErr x → code x ≡ n →
    outcome (code x) r s ≡ settle n r s r' s'
refused_with x {n = n} {r = r} r' {s = s} s' p e = turned_down (code x) n r r' s s' e (some x p)

pub handed_back : {A : Type 0} (x : Result Record Refusal) {n : ℕ} (r r' : Record) {s : A} (s' : A) → IsErr x → code x ≡ n →
    outcome (code x) (value_or r x) s ≡ settle n r s r' s'
handed_back x r r' s' p e = rw (stands_in x p r) (refused_with x r' s' p e)

pub own_fault : {B : Type 0} (x : Result B Refusal) {n : ℕ} (m : ℕ) → IsErr x → code x ≡ n → code x ≡ or_else n m
own_fault x {n = zero} m p e = absurd (some x p e)
own_fault x {n = suc n} m p e = e

pub later_fault : {n m x : ℕ} → 0 ≡ n → x ≡ m → x ≡ or_else n m
later_fault {n = zero} e q = q
later_fault {n = suc n} e q = absurd (let z : ⊥ = omega arith in z)

pub taken_up : {A : Type 0} {n : ℕ} (r : Record) {q r' : Record} (s : A) {t s' : A} → 0 ≡ n → q ≡ r' → t ≡ s' → outcome 0 q t ≡ settle n r s r' s'
taken_up {n = zero} r s e a b = rw (a, b)
taken_up {n = suc n} r s e a b = absurd (let z : ⊥ = omega arith in z)

both_of : (a b : Bool) → (a && b) ≡ true → (a ≡ true) × (b ≡ true)
both_of a b e = (and_left a b e, and_right a b e)

abbrev nine : ℕ → ℕ → ℕ → ℕ → ℕ → ℕ → ℕ → ℕ → ℕ → Lengths
nine a b c d e f g h i = record { electric = a; magnetic = b; media = c; psi_e = d; psi_h = e; tables = f; poles = g; aux = h; ids = i }

abbrev remade : Lengths → Lengths
remade l = nine l.electric l.magnetic l.media l.psi_e l.psi_h l.tables l.poles l.aux l.ids

same_lengths_lem : (a b : Lengths) → same_lengths a b ≡ true → a ≡ b
unfolding same_lengths
same_lengths_lem a b e =
    let h8 = both_of _ _ e in
    let h7 = both_of _ _ h8.0 in
    let h6 = both_of _ _ h7.0 in
    let h5 = both_of _ _ h6.0 in
    let h4 = both_of _ _ h5.0 in
    let h3 = both_of _ _ h4.0 in
    let h2 = both_of _ _ h3.0 in
    let h1 = both_of _ _ h2.0 in
    let e0 = eqb-true a.electric b.electric h1.0 in
    let e1 = eqb-true a.magnetic b.magnetic h1.1 in
    let e2 = eqb-true a.media b.media h2.1 in
    let e3 = eqb-true a.psi_e b.psi_e h3.1 in
    let e4 = eqb-true a.psi_h b.psi_h h4.1 in
    let e5 = eqb-true a.tables b.tables h5.1 in
    let e6 = eqb-true a.poles b.poles h6.1 in
    let e7 = eqb-true a.aux b.aux h7.1 in
    let e8 = eqb-true a.ids b.ids h8.1 in
    let same : remade a ≡ remade b = cc in
    same

-- f is the fault that a call finds with its own test of lengths, done on what `judge` answered: the record's fault n and, where that is 0, the lengths l
pub judged_fault : (r : Record) (test : Lengths → Bool) (n : ℕ) (l : Lengths) (f : ℕ) → n ≡ fault_of r → (n ≡ 0 → l ≡ store_lengths r) → f ≡ lent_fault n (test l) →
    f ≡ fault_lent r (test (store_lengths r))
unfolding fault_lent
judged_fault r test zero l f e k q = q ∙ ap (λ (m : Lengths). lent_fault zero (test m)) (k refl) ∙ ap (λ (m : ℕ). lent_fault m (test (store_lengths r))) e
judged_fault r test (suc n) l f e k q = q ∙ ap (λ (m : ℕ). lent_fault m (test (store_lengths r))) e

-- no fault among the first four: the record is sound, and what is lent passed
pub lent_none : (r : Record) (fits : Bool) → fault_lent r fits ≡ 0 → Sound r × (fits ≡ true)
unfolding fault_lent
lent_none r fits e = let h = or_none (fault_of r) _ e in (sound r h.0, (first_none fits 3 0 h.1).0)

pub with_none : (r : Record) (l : Lengths) → fault_with r l ≡ 0 → Sound r × (l ≡ store_lengths r)
with_none r l e =
    let h = lent_none r (same_lengths l (store_lengths r)) e in
    (h.0, same_lengths_lem l (store_lengths r) h.1)

-- the opened record is the one that was judged
pub fault_at : (f : ℕ) (q r : Record) (l : Lengths) → f ≡ fault_with q l → q ≡ r → f ≡ fault_with r l
fault_at f q r l e h = rw h at e
