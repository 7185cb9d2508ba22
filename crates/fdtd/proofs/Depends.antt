-- What a half step reads for one number of the cell (i, j, k): two studies that agree in it agree in the number after the half step. Of the other field a curl reads four
-- numbers, two for each of its terms, and only where the number moves. Once for both half steps and all axes. Assumes nothing.
use Prim.Native.Nat.{ℕ, zero, suc, ◌+◌, ◌*◌, ◌/◌, ◌%◌, ◌<◌}
use native.Mathlib.Omega.{arith}
use mathlib.Core.Path.{◌≡◌, refl, sym, ap, subst, ◌∙◌}
use mathlib.Core.Bool.{Bool, true, false, cond}
use mathlib.Core.List.{List}
use lib.Dec.{eqb}
use lib.ListN.{get_or}
use lib.Ieee.{Float, nan}
use borrow.Author.Tests.{eqb-true, eqb-false}
use Rattle.cells.specs.Cells.{cell_index}
use Rattle.grid.specs.declared.Record.{Record}
use Rattle.grid.specs.Stores.{number_at, cells}
use Rattle.fdtd.specs.declared.Coef.{Coef}
use Rattle.fdtd.specs.Axes.{axis, turn}
use Rattle.fdtd.specs.Yee.{Term, term, slope, curl, memory_after, factor, ca, cb, updated_h, updated_e}
use Rattle.fdtd.specs.Halves.{Half, half_h, half_e, moves_at, first_term, second_term, curl_at, first_after, second_after, psi_after, magnetic_at, magnetic_after, electric_at, electric_after}
use Rattle.fdtd.specs.Reading.{magnetic_at_lem, electric_at_lem, psi_at}

-- ---- over variables
pub term_same : (on : Bool) (k : Coef) (d : Float) {x x' y y' z z' : Float} → x ≡ x' → y ≡ y' → z ≡ z' → term on k x (slope d y z) ≡ term on k x' (slope d y' z')
term_same on k d p q s = rw (p, q, s)

curl_of : {u u' v v' : Term} → u ≡ u' → v ≡ v' → curl u v ≡ curl u' v'
curl_of p q = rw (p, q)

pub memory_of_lem : (b : Bool) (t t' : Term) → t.psi ≡ t'.psi → (b ≡ true → t ≡ t') → memory_after b t ≡ memory_after b t'
unfolding memory_after
memory_of_lem true t t' e h = ap (memory_after true) (h refl)
memory_of_lem false t t' e h = e

pub moved_h : (b : Bool) {f f' c c' h h' : Float} → f ≡ f' → (b ≡ true → c ≡ c') → h ≡ h' → updated_h b f c h ≡ updated_h b f' c' h'
unfolding updated_h
moved_h true p q s = rw (p, q refl, s)
moved_h false p q s = s

pub moved_e : (b : Bool) (dt : Float) {a a' w w' dp dp' c c' e e' : Float} → a ≡ a' → w ≡ w' → dp ≡ dp' → (b ≡ true → c ≡ c') → e ≡ e' →
    updated_e b a w dt dp c e ≡ updated_e b a' w' dt dp' c' e'
unfolding updated_e
moved_e true dt p q s u v = rw (p, q, s, u refl, v)
moved_e false dt p q s u v = refl

weights_same : (eps0 dt : Float) {x x' y y' : Float} → x ≡ x' → y ≡ y' → (ca eps0 dt x y ≡ ca eps0 dt x' y') × (cb eps0 dt x y ≡ cb eps0 dt x' y')
weights_same eps0 dt p q = (rw (p, q), rw (p, q))

pub turn_less : (a : ℕ) → turn a < 3
turn_less zero = omega arith
turn_less (suc zero) = omega arith
turn_less (suc (suc a)) = omega arith

-- ---- where numbers stand: number c of a field, and the two memories of component a
module _ (r : Record) (from : ℕ) where
  at_number : (f : List Float) (c m : ℕ) → c < 3 → get_or f ((axis r from c).at + m) nan ≡ number_at f (cells r) c m
  at_number f zero m l = ap (λ (n : ℕ). get_or f n nan) (omega arith)
  at_number f (suc zero) m l = ap (λ (n : ℕ). get_or f n nan) (omega arith)
  at_number f (suc (suc zero)) m l = refl
  at_number f (suc (suc (suc c))) m l = absurd (omega arith)

  at_first : (p : List Float) (a m : ℕ) → a < 3 → get_or p ((axis r from a).mem + m) nan ≡ number_at p (cells r) (2 * a) m
  at_first p zero m l = ap (λ (n : ℕ). get_or p n nan) (omega arith)
  at_first p (suc zero) m l = ap (λ (n : ℕ). get_or p n nan) (omega arith)
  at_first p (suc (suc zero)) m l = ap (λ (n : ℕ). get_or p n nan) (omega arith)
  at_first p (suc (suc (suc a))) m l = absurd (omega arith)

  at_second : (p : List Float) (a m : ℕ) → a < 3 → get_or p ((axis r from a).mem + cells r + m) nan ≡ number_at p (cells r) (2 * a + 1) m
  at_second p zero m l = ap (λ (n : ℕ). get_or p n nan) (omega arith)
  at_second p (suc zero) m l = ap (λ (n : ℕ). get_or p n nan) (omega arith)
  at_second p (suc (suc zero)) m l = ap (λ (n : ℕ). get_or p n nan) (omega arith)
  at_second p (suc (suc (suc a))) m l = absurd (omega arith)

-- ---- number c of the cell (i, j, k) is equal in f and g
abbrev pub Here : (r : Record) → (i j k : ℕ) → (f g : List Float) → (c : ℕ) → Type 0
Here r i j k f g c = number_at f (cells r) c (cell_index r.nx r.ny i j k) ≡ number_at g (cells r) c (cell_index r.nx r.ny i j k)

-- and at both ends of the difference along b
abbrev pub Ends : Half → (r : Record) → (f g : List Float) → (i j k b c : ℕ) → Type 0
Ends w r f g i j k b c =
    (number_at f (cells r) c (w.lo r b i j k) ≡ number_at g (cells r) c (w.lo r b i j k)) × (number_at f (cells r) c (w.hi r b i j k) ≡ number_at g (cells r) c (w.hi r b i j k))

-- the four numbers that the curl of component a takes
abbrev pub CurlEnds : Half → (r : Record) → (f g : List Float) → (a i j k : ℕ) → Type 0
CurlEnds w r f g a i j k = Ends w r f g i j k (turn a) (turn (turn a)) × Ends w r f g i j k (turn (turn a)) (turn a)

-- ---- the terms, the curl and the memories of component a, by the fields f and g and the memories p and q
module _ (w : Half) (r : Record) (f g tables p q : List Float) (a i j k : ℕ) (l : a < 3) where
  abbrev cell : ℕ
  cell = cell_index r.nx r.ny i j k

  through : (c m : ℕ) → c < 3 → number_at f (cells r) c m ≡ number_at g (cells r) c m → get_or f ((axis r w.from c).at + m) nan ≡ get_or g ((axis r w.from c).at + m) nan
  through c m b e = at_number r w.from f c m b ∙ e ∙ sym (at_number r w.from g c m b)

  first_kept : Here r i j k p q (2 * a) → get_or p ((axis r w.from a).mem + cell) nan ≡ get_or q ((axis r w.from a).mem + cell) nan
  first_kept e = at_first r w.from p a cell l ∙ e ∙ sym (at_first r w.from q a cell l)

  second_kept : Here r i j k p q (2 * a + 1) → get_or p ((axis r w.from a).mem + cells r + cell) nan ≡ get_or q ((axis r w.from a).mem + cells r + cell) nan
  second_kept e = at_second r w.from p a cell l ∙ e ∙ sym (at_second r w.from q a cell l)

  pub first_same : Here r i j k p q (2 * a) → Ends w r f g i j k (turn a) (turn (turn a)) → first_term w r f tables p a i j k ≡ first_term w r g tables q a i j k
  first_same e d =
      term_same _ _ _ (first_kept e) (through (turn (turn a)) (w.lo r (turn a) i j k) (turn_less (turn a)) d.0)
      (through (turn (turn a)) (w.hi r (turn a) i j k) (turn_less (turn a)) d.1)

  pub second_same : Here r i j k p q (2 * a + 1) → Ends w r f g i j k (turn (turn a)) (turn a) → second_term w r f tables p a i j k ≡ second_term w r g tables q a i j k
  second_same e d =
      term_same _ _ _ (second_kept e) (through (turn a) (w.lo r (turn (turn a)) i j k) (turn_less a) d.0)
      (through (turn a) (w.hi r (turn (turn a)) i j k) (turn_less a) d.1)

  pub curl_same : Here r i j k p q (2 * a) → Here r i j k p q (2 * a + 1) → CurlEnds w r f g a i j k → curl_at w r f tables p a i j k ≡ curl_at w r g tables q a i j k
  unfolding curl_at
  curl_same e e' d = curl_of (first_same e d.0) (second_same e' d.1)

  pub first_after_lem : Here r i j k p q (2 * a) → (moves_at w r f tables p a i j k ≡ true → Ends w r f g i j k (turn a) (turn (turn a))) →
      first_after w r f tables p a i j k ≡ first_after w r g tables q a i j k
  unfolding first_after moves_at
  first_after_lem e d = memory_of_lem (moves_at w r f tables p a i j k) (first_term w r f tables p a i j k) (first_term w r g tables q a i j k) (first_kept e) (λ b. first_same e (d b))

  pub second_after_lem : Here r i j k p q (2 * a + 1) → (moves_at w r f tables p a i j k ≡ true → Ends w r f g i j k (turn (turn a)) (turn a)) →
      second_after w r f tables p a i j k ≡ second_after w r g tables q a i j k
  unfolding second_after moves_at
  second_after_lem e d = memory_of_lem (moves_at w r f tables p a i j k) (second_term w r f tables p a i j k) (second_term w r g tables q a i j k) (second_kept e) (λ b. second_same e (d b))

-- ---- the stores after the half steps
module _ (r : Record) (tables : List Float) (i j k : ℕ) (x : i < r.nx) (y : j < r.ny) (z : k < r.nz) where
  abbrev Own : (f g : List Float) → (c : ℕ) → Type 0
  Own = Here r i j k

  pub magnetic_same : (mu0 : Float) (e e' media media' psi psi' h h' : List Float) (a : ℕ) → a < 3 →
      (moves_at half_h r e tables psi a i j k ≡ true → CurlEnds half_h r e e' a i j k) → Own psi psi' (2 * a) → Own psi psi' (2 * a + 1) → Own media media' 1 → Own h h' a →
      Own (magnetic_after mu0 r e media tables psi h) (magnetic_after mu0 r e' media' tables psi' h') a
  unfolding magnetic_at moves_at
  magnetic_same mu0 e e' media media' psi psi' h h' a l d p q m s =
      magnetic_at_lem r i j k x y z mu0 e media tables psi h a l
      ∙ moved_h (moves_at half_h r e tables psi a i j k) (ap (factor r.spacings.dt mu0) m) (λ b. curl_same half_h r e e' tables psi psi' a i j k l p q (d b)) s
      ∙ sym (magnetic_at_lem r i j k x y z mu0 e' media' tables psi' h' a l)

  pub electric_same : (eps0 : Float) (h h' media media' : List Float) (dp dp' : ℕ → ℕ → Float) (psi psi' e e' : List Float) (a : ℕ) → a < 3 →
      (moves_at half_e r h tables psi a i j k ≡ true → CurlEnds half_e r h h' a i j k) → Own psi psi' (2 * a) → Own psi psi' (2 * a + 1) →
      Own media media' 0 → Own media media' 2 → dp a (cell_index r.nx r.ny i j k) ≡ dp' a (cell_index r.nx r.ny i j k) → Own e e' a →
      Own (electric_after eps0 r h media tables dp psi e) (electric_after eps0 r h' media' tables dp' psi' e') a
  unfolding electric_at moves_at
  electric_same eps0 h h' media media' dp dp' psi psi' e e' a l d p q me ms c s =
      let w = weights_same eps0 r.spacings.dt me ms in
      electric_at_lem r i j k x y z eps0 h media tables dp psi e a l
      ∙ moved_e (moves_at half_e r h tables psi a i j k) r.spacings.dt w.0 w.1 c (λ b. curl_same half_e r h h' tables psi psi' a i j k l p q (d b)) s
      ∙ sym (electric_at_lem r i j k x y z eps0 h' media' tables dp' psi' e' a l)

  pub psi_same : (w : Half) (f g p q : List Float) (m : ℕ) → m < 6 → (moves_at w r f tables p (m / 2) i j k ≡ true → CurlEnds w r f g (m / 2) i j k) → Own p q m →
      Own (psi_after w r f tables p) (psi_after w r g tables q) m
  psi_same w f g p q m l d e = psi_at r i j k x y z w f tables p m l ∙ go (eqb (m % 2) 0) refl ∙ sym (psi_at r i j k x y z w g tables q m l)
    where
      go : (b : Bool) → eqb (m % 2) 0 ≡ b → cond b (first_after w r f tables p (m / 2) i j k) (second_after w r f tables p (m / 2) i j k) ≡
          cond b (first_after w r g tables q (m / 2) i j k) (second_after w r g tables q (m / 2) i j k)
      go true t =
          let even = eqb-true (m % 2) 0 t in
          let n : m ≡ 2 * (m / 2) = omega arith in
          first_after_lem w r f g tables p q (m / 2) i j k (omega arith) (subst (Own p q) n e) (λ b. (d b).0)
      go false t =
          let odd = eqb-false (m % 2) 0 t in
          let n : m ≡ 2 * (m / 2) + 1 = omega arith in
          second_after_lem w r f g tables p q (m / 2) i j k (omega arith) (subst (Own p q) n e) (λ b. (d b).1)
