-- What a cell's numbers are after each slot and component, from the cleared store to `poles_after`. Assumes nothing.
use Prim.Native.Nat.{ℕ, zero, suc, ◌+◌, ◌-◌, ◌*◌, ◌/◌, ◌%◌, ◌≤◌, ◌<◌}
use native.Mathlib.Nat.{add-mul}
use native.Mathlib.Omega.{arith}
use mathlib.Core.Path.{◌≡◌, refl, sym, ap, ◌∙◌}
use mathlib.Core.Bool.{Bool, true, false, cond, ◌&&◌}
use mathlib.Core.List.{List, [], ◌∷◌}
use lib.Dec.{ltb, eqb}
use lib.ListN.{length, get_or, replicate, length-replicate, get_or-replicate}
use lib.Ieee.{Float, nan}
use borrow.Author.Tests.{ltb-true, ltb-false, eqb-true, eqb-false, lt-ltb, le-ltb, eq-eqb, ne_eqb}
use Rattle.root.specs.Rounded.{◌⊕◌, ◌⊖◌, zero_f, summed}
use Rattle.codec.specs.Lists.{put}
use Rattle.codec.proofs.Lists.{put_length, put_before, put_inside}
use Rattle.dispersion.specs.declared.AdeCoeffs.{AdeCoeffs}
use Rattle.dispersion.specs.Ade.{ade_coeffs}
use Rattle.cells.specs.Reading.{block_end}
use Rattle.cells.proofs.Blocks.{joined_same}
use Rattle.cells.proofs.Sweeps.{parts_whole}
use Rattle.cells.proofs.Pointwise.{part_row}
use Rattle.grid.specs.declared.Record.{Record}
use Rattle.grid.specs.Fault.{pole_count, poles_fit, counts_fit, layer_fits, region_fits, size_fits, spacings_fit, study_fits, fault_of}
use Rattle.grid.proofs.Tests.{and_left, and_right, first_none}
use Rattle.grid.specs.Stores.{number_at, cells}
use Rattle.grid.proofs.Judging.{poles_at}
use Rattle.ade.specs.Polarization.{polarized, pole_at, pole_count_at, p_old, p_prev, p_new, p_after, p_prev_after, dp_after, pole_number, poles_after}
use Rattle.ade.specs.declared.Stepped.{Stepped}
use Rattle.ade.specs.Inner.Runs.{PolesReady, PolesRoom, coeff_at, nothing, Table, moved, through, Changed, field_at, by_cell}
use Rattle.ade.proofs.Columns.{moved_same}

-- ---- a test that only n itself can change
ltb_next : (x n : ℕ) → (x ≡ n → ⊥) → ltb x (n + 1) ≡ ltb x n
ltb_next x n o = go (ltb x n) refl
  where
    go : (b : Bool) → ltb x n ≡ b → ltb x (n + 1) ≡ ltb x n
    go true e = let k : x < n = ltb-true x n e in rw e (lt-ltb x (n + 1) (omega arith))
    go false e = let k : n ≤ x = ltb-false x n e in rw e (le-ltb x (n + 1) (omega (arith, o)))

-- after pass 3 s + c as many slots of another component x are done as before it
slots_same : (s c x : ℕ) → c < 3 → x < 3 → (x ≡ c → ⊥) → (3 * s + c + 2 - x) / 3 ≡ (3 * s + c + 1 + 2 - x) / 3
slots_same s c x hc hx o = go (ltb x c) refl
  where
    go : (b : Bool) → ltb x c ≡ b → (3 * s + c + 2 - x) / 3 ≡ (3 * s + c + 1 + 2 - x) / 3
    go true e =
        let l : x < c = ltb-true x c e in
        let a : (3 * s + c + 2 - x) / 3 ≡ s + 1 = omega arith in
        let b : (3 * s + c + 1 + 2 - x) / 3 ≡ s + 1 = omega arith in
        a ∙ sym b
    go false e =
        let l : c ≤ x = ltb-false x c e in
        let k : c < x = omega (arith, o) in
        let a : (3 * s + c + 2 - x) / 3 ≡ s = omega arith in
        let b : (3 * s + c + 1 + 2 - x) / 3 ≡ s = omega arith in
        a ∙ sym b

-- after the last all that are counted are
slots_done : (p x : ℕ) → x < 3 → (3 * p + 2 - x) / 3 ≡ p
slots_done p x h = omega arith

same_test : (n k : ℕ) → ltb n (3 * k) ≡ ltb (n / 3) k
same_test n k = go (ltb n (3 * k)) refl
  where
    go : (b : Bool) → ltb n (3 * k) ≡ b → ltb n (3 * k) ≡ ltb (n / 3) k
    go true e = let h : n < 3 * k = ltb-true n (3 * k) e in e ∙ sym (lt-ltb (n / 3) k (omega arith))
    go false e = let h : 3 * k ≤ n = ltb-false n (3 * k) e in e ∙ sym (le-ltb (n / 3) k (omega arith))

-- ---- one cell
module _ (eps0 : Float) (r : Record) (ids : List ℕ) (electric old : List Float) (m : ℕ) where
  abbrev P : ℕ
  P = r.pole_slots

  abbrev new : (slot c : ℕ) → Float
  new slot c = p_new eps0 r ids electric old slot c m

  abbrev own : (slot c : ℕ) → Float
  own slot c = p_old eps0 r ids electric old slot c m

  abbrev change : (c : ℕ) → ℕ → Float
  change c slot = new slot c ⊖ own slot c

  abbrev count : ℕ
  count = pole_count_at eps0 r ids electric old m

  -- its number n once q passes are done: slot 0 with components 0, 1, 2, then slot 1 and so on, as far as slots are counted
  unfoldable G : (q n : ℕ) → Float
  G q n =
      cond (ltb n (3 * P)) (cond (ltb n q) (new (n / 3) (n % 3)) (number_at old (cells r) n m))
      (cond (ltb n (6 * P)) (cond (ltb (n - 3 * P) q) (own ((n - 3 * P) / 3) ((n - 3 * P) % 3)) (number_at old (cells r) n m))
      (summed ((q + 2 - (n - 6 * P)) / 3) (change (n - 6 * P))))

  range_p : (q n : ℕ) → n < 3 * P → G q n ≡ cond (ltb n q) (new (n / 3) (n % 3)) (number_at old (cells r) n m)
  unfolding G
  range_p q n h = rw (lt-ltb n (3 * P) h) refl

  range_b : (q n : ℕ) → 3 * P ≤ n → n < 6 * P → G q n ≡ cond (ltb (n - 3 * P) q) (own ((n - 3 * P) / 3) ((n - 3 * P) % 3)) (number_at old (cells r) n m)
  unfolding G
  range_b q n h k = rw (le-ltb n (3 * P) h, lt-ltb n (6 * P) k) refl

  range_d : (q c : ℕ) → G q (6 * P + c) ≡ summed ((q + 2 - c) / 3) (change c)
  unfolding G
  range_d q c =
      let e : 6 * P + c - 6 * P ≡ c = omega arith in
      rw (le-ltb (6 * P + c) (3 * P) (omega arith), le-ltb (6 * P + c) (6 * P) (omega arith), e) refl

  -- ---- one pass over it: slot s, component c
  module _ (s c : ℕ) (hs : s < P) (hc : c < 3) where
    abbrev I : ℕ
    I = 3 * s + c

    third : I / 3 ≡ s
    third = omega arith

    left_over : I % 3 ≡ c
    left_over = omega arith

    old_p : G I I ≡ own s c
    old_p = range_p I I (omega arith) ∙ rw (le-ltb I I (omega arith)) refl

    new_p : G (I + 1) I ≡ new s c
    new_p = range_p (I + 1) I (omega arith) ∙ rw (lt-ltb I (I + 1) (omega arith), third, left_over) refl

    old_b : G I (3 * P + I) ≡ p_prev eps0 r ids electric old s c m
    old_b =
        let e : 3 * P + I - 3 * P ≡ I = omega arith in
        range_b I (3 * P + I) (omega arith) (omega arith) ∙ rw (e, le-ltb I I (omega arith)) refl

    new_b : G (I + 1) (3 * P + I) ≡ own s c
    new_b =
        let e : 3 * P + I - 3 * P ≡ I = omega arith in
        range_b (I + 1) (3 * P + I) (omega arith) (omega arith) ∙ rw (e, lt-ltb I (I + 1) (omega arith), third, left_over) refl

    old_d : G I (6 * P + c) ≡ summed s (change c)
    old_d = let e : (I + 2 - c) / 3 ≡ s = omega arith in range_d I c ∙ rw e refl

    new_d : G (I + 1) (6 * P + c) ≡ summed s (change c) ⊕ change c s
    unfolding summed
    new_d = let e : (I + 1 + 2 - c) / 3 ≡ suc s = omega arith in range_d (I + 1) c ∙ rw e refl

    others : (n : ℕ) → n < 6 * P + 3 → (n ≡ I → ⊥) → (n ≡ 3 * P + I → ⊥) → (n ≡ 6 * P + c → ⊥) → G I n ≡ G (I + 1) n
    others n h oi oj od = go (ltb n (3 * P)) refl (ltb n (6 * P)) refl
      where
        go : (a : Bool) → ltb n (3 * P) ≡ a → (b : Bool) → ltb n (6 * P) ≡ b → G I n ≡ G (I + 1) n
        go true e b f =
            let l : n < 3 * P = ltb-true n (3 * P) e in
            range_p I n l ∙ rw (← ltb_next n I oi) (sym (range_p (I + 1) n l))
        go false e true f =
            let k : 3 * P ≤ n = ltb-false n (3 * P) e in
            let l : n < 6 * P = ltb-true n (6 * P) f in
            let o : n - 3 * P ≡ I → ⊥ = λ q. oj (omega arith) in
            range_b I n k l ∙ rw (← ltb_next (n - 3 * P) I o) (sym (range_b (I + 1) n k l))
        go false e false f =
            let k : 6 * P ≤ n = ltb-false n (6 * P) f in
            let x : ℕ = n - 6 * P in
            let q : n ≡ 6 * P + x = omega arith in
            let w : (I + 2 - x) / 3 ≡ (I + 1 + 2 - x) / 3 = slots_same s c x hc (omega arith) (λ y. od (omega arith)) in
            ap (G I) q ∙ range_d I x ∙ rw w (sym (range_d (I + 1) x)) ∙ ap (G (I + 1)) (sym q)

    -- what the pass does to it, n being any of its numbers
    abbrev K : AdeCoeffs
    K = ade_coeffs eps0 r.spacings.dt (pole_at r (get_or ids m 0) s)

    abbrev E : Float
    E = number_at electric (cells r) c m

    abbrev pushed : ℕ → Float
    pushed n = moved K E I (3 * P + I) (6 * P + c) (G I) n

    new_is : polarized K (G I I) (G I (3 * P + I)) E ≡ new s c
    unfolding p_new
    new_is = rw (old_p, old_b) refl

    push_d : pushed (6 * P + c) ≡ summed s (change c) ⊕ change c s
    unfolding moved
    push_d = rw (eq-eqb (6 * P + c) (6 * P + c) refl, new_is, old_d, old_p) refl

    push_b : pushed (3 * P + I) ≡ own s c
    unfolding moved
    push_b = rw (ne_eqb (3 * P + I) (6 * P + c) (λ e. omega arith), eq-eqb (3 * P + I) (3 * P + I) refl) old_p

    push_p : pushed I ≡ new s c
    unfolding moved
    push_p = rw (ne_eqb I (6 * P + c) (λ e. omega arith), ne_eqb I (3 * P + I) (λ e. omega arith), eq-eqb I I refl) new_is

    push_other : (n : ℕ) → (n ≡ I → ⊥) → (n ≡ 3 * P + I → ⊥) → (n ≡ 6 * P + c → ⊥) → pushed n ≡ G I n
    unfolding moved
    push_other n oi oj od = rw (ne_eqb n (6 * P + c) od, ne_eqb n (3 * P + I) oj, ne_eqb n I oi) refl

    one_pass : (n : ℕ) → n < 6 * P + 3 → pushed n ≡ G (I + 1) n
    one_pass n h = go (eqb n (6 * P + c)) refl (eqb n (3 * P + I)) refl (eqb n I) refl
      where
        go : (x : Bool) → eqb n (6 * P + c) ≡ x → (y : Bool) → eqb n (3 * P + I) ≡ y → (z : Bool) → eqb n I ≡ z → pushed n ≡ G (I + 1) n
        go true e y f z g = rw (eqb-true n (6 * P + c) e) (push_d ∙ sym new_d)
        go false e true f z g = rw (eqb-true n (3 * P + I) f) (push_b ∙ sym new_b)
        go false e false f true g = rw (eqb-true n I g) (push_p ∙ sym new_p)
        go false e false f false g =
            let od = eqb-false n (6 * P + c) e in
            let oj = eqb-false n (3 * P + I) f in
            let oi = eqb-false n I g in
            push_other n oi oj od ∙ others n h oi oj od

  -- ---- before the first pass
  none_done : (n : ℕ) → n < 6 * P → G 0 n ≡ number_at old (cells r) n m
  none_done n h = go (ltb n (3 * P)) refl
    where
      go : (b : Bool) → ltb n (3 * P) ≡ b → G 0 n ≡ number_at old (cells r) n m
      go true e = range_p 0 n (ltb-true n (3 * P) e) ∙ rw (le-ltb n 0 (omega arith)) refl
      go false e = range_b 0 n (ltb-false n (3 * P) e) h ∙ rw (le-ltb (n - 3 * P) 0 (omega arith)) refl

  none_summed : (c : ℕ) → G 0 (6 * P + c) ≡ zero_f
  unfolding summed
  none_summed c = let e : (0 + 2 - c) / 3 ≡ 0 = omega arith in range_d 0 c ∙ rw e refl

  -- ---- after the last
  own_place : (n : ℕ) → own (n / 3) (n % 3) ≡ number_at old (cells r) n m
  own_place n = let e : 3 * (n / 3) + n % 3 ≡ n = omega arith in ap (λ (y : ℕ). number_at old (cells r) y m) e

  last_p : (n : ℕ) → n < 3 * P → G (3 * count) n ≡ p_after eps0 r ids electric old (n / 3) (n % 3) m
  last_p n h = range_p (3 * count) n h ∙ rw (same_test n count, ← own_place n) refl

  last_b : (n x : ℕ) → x < 3 * P → n ≡ 3 * P + x → G (3 * count) n ≡ p_prev_after eps0 r ids electric old (x / 3) (x % 3) m
  last_b n x h e =
      let d : 3 * P + x - 3 * P ≡ x = omega arith in
      let w : 3 * (x / 3) + x % 3 ≡ x = omega arith in
      ap (G (3 * count)) e
      ∙ range_b (3 * count) (3 * P + x) (omega arith) (omega arith)
      ∙ rw (d, same_test x count) (ap (λ (y : ℕ). cond (ltb (x / 3) count) (own (x / 3) (x % 3)) (number_at old (cells r) (3 * P + y) m)) (sym w))

  last_d : (c : ℕ) → c < 3 → G (3 * count) (6 * P + c) ≡ dp_after eps0 r ids electric old c m
  unfolding dp_after
  last_d c h = range_d (3 * count) c ∙ rw (slots_done count c h) refl

  all_done : (n : ℕ) → n < 6 * P + 3 → G (3 * count) n ≡ pole_number eps0 r ids electric old n m
  unfolding pole_number
  all_done n h = go (ltb n (3 * P)) refl (ltb n (6 * P)) refl
    where
      go : (a : Bool) → ltb n (3 * P) ≡ a → (b : Bool) → ltb n (6 * P) ≡ b → G (3 * count) n ≡ pole_number eps0 r ids electric old n m
      go true e b f = last_p n (ltb-true n (3 * P) e) ∙ rw e refl
      go false e true f =
          let w : 3 * P ≤ n = ltb-false n (3 * P) e in
          let l : n < 6 * P = ltb-true n (6 * P) f in
          last_b n (n - 3 * P) (omega arith) (omega arith) ∙ rw (e, lt-ltb n (2 * (3 * P)) (omega arith)) refl
      go false e false f =
          let l : 6 * P ≤ n = ltb-false n (6 * P) f in
          let q : n ≡ 6 * P + (n - 2 * (3 * P)) = omega arith in
          ap (G (3 * count)) q ∙ last_d (n - 2 * (3 * P)) (omega arith) ∙ rw (e, le-ltb n (2 * (3 * P)) (omega arith)) refl

  -- ---- all its passes
  abbrev AsG : (q : ℕ) → (ℕ → Float) → Type 0
  AsG q g = (n : ℕ) → n < 6 * P + 3 → g n ≡ G q n

  pass_on : (s c i j d q : ℕ) (k : AdeCoeffs) (g : ℕ → Float) → s < P → c < 3 → i ≡ 3 * s + c → j ≡ 3 * P + (3 * s + c) → d ≡ 6 * P + c → q ≡ 3 * s + c + 1 →
      k ≡ ade_coeffs eps0 r.spacings.dt (pole_at r (get_or ids m 0) s) → AsG (3 * s + c) g → AsG q (moved k (field_at electric (cells r) m c) i j d g)
  pass_on s c i j d q k g hs hc ei ej ed eq ek f n h =
      let x : Float = field_at electric (cells r) m c in
      ap (λ (y : ℕ). moved k x y j d g n) ei
      ∙ ap (λ (y : ℕ). moved k x (3 * s + c) y d g n) ej
      ∙ ap (λ (y : ℕ). moved k x (3 * s + c) (3 * P + (3 * s + c)) y g n) ed
      ∙ ap (λ (y : AdeCoeffs). moved y x (3 * s + c) (3 * P + (3 * s + c)) (6 * P + c) g n) ek
      ∙ moved_same (ade_coeffs eps0 r.spacings.dt (pole_at r (get_or ids m 0) s)) x (3 * s + c) (3 * P + (3 * s + c)) (6 * P + c) n g (G (3 * s + c))
      (f (3 * s + c) (omega arith)) (f (3 * P + (3 * s + c)) (omega arith)) (f (6 * P + c) (omega arith)) (f n h)
      ∙ one_pass s c hs hc n h
      ∙ ap (λ (y : ℕ). G y n) (sym eq)

  all_passes : (k : ℕ → AdeCoeffs) (g : ℕ → Float) → count ≤ P → ((t : ℕ) → t < count → k t ≡ ade_coeffs eps0 r.spacings.dt (pole_at r (get_or ids m 0) t)) →
      AsG 0 g → (s : ℕ) → s ≤ count → AsG (3 * s) (through k P (field_at electric (cells r) m) s g)
  unfolding through
  all_passes k g few ks start zero h = start
  all_passes k g few ks start (suc s) h =
      let e0 : 3 * s ≡ 3 * s + 0 = omega arith in
      let before : AsG (3 * s) (through k P (field_at electric (cells r) m) s g) = all_passes k g few ks start s (omega arith) in
      let zeroth : AsG (3 * s + 0) (through k P (field_at electric (cells r) m) s g) = λ n l. before n l ∙ ap (λ (y : ℕ). G y n) e0 in
      let first = pass_on s 0 (3 * s) (3 * P + 3 * s) (6 * P) (3 * s + 1) (k s) _ (omega arith) (omega arith) e0 (omega arith) (omega arith) (omega arith) (ks s (omega arith)) zeroth in
      let second = pass_on s 1 (3 * s + 1) (3 * P + 3 * s + 1) (6 * P + 1) (3 * s + 2) (k s) _ (omega arith) (omega arith) refl (omega arith) refl (omega arith) (ks s (omega arith)) first in
      pass_on s 2 (3 * s + 2) (3 * P + 3 * s + 2) (6 * P + 2) (3 * suc s) (k s) _ (omega arith) (omega arith) refl (omega arith) refl (omega arith) (ks s (omega arith)) second

-- ---- all cells
-- of a record that was judged
pub fit_of : (r : Record) → fault_of r ≡ 0 → poles_fit r ≡ true
unfolding fault_of study_fits
fit_of r e =
    let layer = layer_fits r.active r.layer_on in
    let region = region_fits r.region r.nx r.ny r.nz in
    let size = first_none (size_fits r.nx r.ny r.nz) 0 _ e in
    let spacing = first_none (spacings_fit r.spacings) 1 _ size.1 in
    let study = first_none (study_fits r) 2 0 spacing.1 in
    and_right (counts_fit r) (poles_fit r) (and_left (counts_fit r && poles_fit r) layer (and_left (counts_fit r && poles_fit r && layer) region study.0))

module _ (eps0 : Float) (r : Record) (ids : List ℕ) (electric old : List Float) (ready : PolesReady r ids electric old) where
  abbrev N : ℕ
  N = cells r

  abbrev Slots : ℕ
  Slots = r.pole_slots

  abbrev M : ℕ
  M = r.material_count

  abbrev cleared : List Float
  cleared = put old (6 * Slots * N) (replicate (3 * N) zero_f)

  nought : length (replicate (3 * N) zero_f) ≡ 3 * N
  nought = length-replicate (3 * N) zero_f

  pub dp_fits : 6 * Slots * N + 3 * N ≤ length old
  dp_fits = omega (arith, ready.stored, add-mul (6 * Slots) 3 N)

  pub cleared_length : length cleared ≡ length old
  cleared_length = put_length old (6 * Slots * N) (replicate (3 * N) zero_f) (omega (arith, nought, dp_fits))

  at_first : (m : ℕ) → m < N → AsG eps0 r ids electric old m 0 (λ n. number_at cleared N n m)
  at_first m hm n hn = at (ltb n (6 * Slots)) refl
    where
      at : (b : Bool) → ltb n (6 * Slots) ≡ b → number_at (put old (6 * Slots * N) (replicate (3 * N) zero_f)) N n m ≡ G eps0 r ids electric old m 0 n
      at true f =
          let l : n < 6 * Slots = ltb-true n (6 * Slots) f in
          put_before old (6 * Slots * N) (replicate (3 * N) zero_f) (n * N + m) nan (omega (arith, dp_fits)) (omega (arith, block_end n (6 * Slots) N l))
          ∙ sym (none_done eps0 r ids electric old m n l)
      at false f =
          let l : 6 * Slots ≤ n = ltb-false n (6 * Slots) f in
          let x : ℕ = n - 6 * Slots in
          let q : n ≡ 6 * Slots + x = omega arith in
          let k : n * N ≡ 6 * Slots * N + x * N = ap (λ (y : ℕ). y * N) q ∙ add-mul (6 * Slots) x N in
          let w : n * N + m ≡ 6 * Slots * N + (x * N + m) = omega arith in
          let u : x < 3 = omega arith in
          let v : x * N + m < 3 * N = omega (arith, block_end x 3 N u) in
          ap (λ (y : ℕ). get_or (put old (6 * Slots * N) (replicate (3 * N) zero_f)) y nan) w
          ∙ put_inside old (6 * Slots * N) (replicate (3 * N) zero_f) (x * N + m) nan (omega (arith, dp_fits)) (omega (arith, nought))
          ∙ get_or-replicate (3 * N) (x * N + m) zero_f nan v
          ∙ sym (ap (G eps0 r ids electric old m 0) q ∙ none_summed eps0 r ids electric old m x)

  pub advanced : (table : List Stepped) (start new : List Float) → start ≡ cleared → Table eps0 r M table →
      Changed N 0 N (by_cell table ids electric N Slots) start new → new ≡ poles_after eps0 r ids electric old
  unfolding poles_after
  advanced table start new e of_all t =
      let long : length new ≡ (6 * Slots + 3) * N = t.same ∙ ap length e ∙ cleared_length ∙ ready.stored in
      sym (parts_whole (6 * Slots + 3) N new long)
      ∙ joined_same (6 * Slots + 3) _ _ (λ n hn.
      part_row new (n * N) N nan (omega (arith, long, block_end n (6 * Slots + 3) N hn))
      ∙ joined_same N _ _ (λ m hm. ap (λ (x : Float). x ∷ []) (each n m hn hm)))
    where
      each : (n m : ℕ) → n < 6 * Slots + 3 → m < N → number_at new N n m ≡ pole_number eps0 r ids electric old n m
      each n m hn hm =
          let id : ℕ = get_or ids m 0 in
          let hi : id < M = ready.known m hm in
          let k : Stepped = get_or table id nothing in
          let is = of_all.each id hi in
          let first : AsG eps0 r ids electric old m 0 (λ y. number_at start N y m) = λ y hy. ap (λ (l : List Float). number_at l N y m) e ∙ at_first m hm y hy in
          t.done n m (omega arith) hm hm
          ∙ ap (λ (c : ℕ). through (coeff_at k) Slots (field_at electric N m) c (λ y. number_at start N y m) n) is.counted
          ∙ all_passes eps0 r ids electric old m (coeff_at k) (λ y. number_at start N y m) (poles_at r id ready.fit hi) is.listed.each first (pole_count r id) (omega arith) n hn
          ∙ all_done eps0 r ids electric old m n hn

  -- what the tables and the cells ask
  pub few_poles : (i : ℕ) → i < M → pole_count r i ≤ 4
  few_poles i h = omega (arith, poles_at r i ready.fit h)

  pub room : (start : List Float) → length start ≡ length old → PolesRoom N Slots electric start
  room start e = record {
    few = omega arith;
    field = omega arith;
    blocks = λ b h. omega (arith, e, ready.stored, block_end b (6 * Slots + 3) N h);
  }

  pub known_counts : (table : List Stepped) → Table eps0 r M table → (m : ℕ) → m < N → (get_or ids m 0 < 16) × ((get_or table (get_or ids m 0) nothing).count ≤ Slots)
  known_counts table p m h =
      let hi : get_or ids m 0 < M = ready.known m h in
      (omega arith, omega (arith, (p.each (get_or ids m 0) hi).counted, poles_at r (get_or ids m 0) ready.fit hi))
