-- One material as its twenty numbers: they fit their widths, are found fine, and say the material again, without what means nothing. Assumes nothing.
use Prim.Native.Nat.{ℕ, zero, suc, ◌^◌, ◌<◌}
use native.Mathlib.Omega.{arith}
use mathlib.Core.Path.{◌≡◌, refl, sym, ap, ◌∙◌}
use mathlib.Core.Bool.{Bool, true, false, cond, ◌&&◌}
use mathlib.Core.List.{List, [], ◌∷◌, ◌++◌}
use borrow.Author.Tests.{lt-ltb}
use lib.Dec.{T, ltb, leb-suc-zero, leb-suc-suc}
use lib.ListN.{length, get_or}
use lib.Seq.{ext_get_or}
use lib.Ieee.{Float, binary64, of_bits, nan_bits}
use lib.Ieee.Bits.{of_bits-to_bits, to_bits-lt}
use lib.Ieee.Fits.{and_i, and_l, and_r}
use Rattle.codec.specs.Bytes.{fine, fit_all, bits}
use Rattle.codec.proofs.Patterns.{bits_fine}
use Rattle.codec.proofs.Row.{fit_nil, fit_cons}
use Rattle.dispersion.specs.declared.Pole.{Pole}
use Rattle.dispersion.specs.declared.Pole.TheVariants.{Lorentz, Drude, Debye}
use Rattle.dispersion.specs.declared.DispersiveMaterial.{DispersiveMaterial}
use Rattle.dispersion.specs.Material.{blank_slot}
use Rattle.cells.specs.Cells.{joined, row}
use Rattle.cells.specs.Reading.{length_row}
use Rattle.cells.proofs.Written.{get_d_row}
use Rattle.grid.specs.Canon.{keep_first, canon_material}
use Rattle.grid.specs.Fault.{all_below}
use Rattle.heads.specs.Numbers.{front_widths, slot_widths, ml_widths, slot_nums, slot_of, slot_shaped, three_fine, ml_nums, ml_shaped, ml_fine, ml_of}
use Rattle.block.specs.Inner.Held.{held, pole_held, MaterialHeld}

-- ---- a list whose elements past the n-th are d
length_keep : {A : Type 0} (n : ℕ) (d : A) (l : List A) → length (keep_first n d l) ≡ length l
unfolding keep_first
length_keep n d [] = refl
length_keep zero d (x ∷ l) = ap suc (length_keep zero d l)
length_keep (suc n) d (x ∷ l) = ap suc (length_keep n d l)

get_d_keep : {A : Type 0} (n : ℕ) (d : A) (l : List A) (i : ℕ) → get_or (keep_first n d l) i d ≡ cond (ltb i n) (get_or l i d) d
unfolding keep_first
get_d_keep n d [] i = go (ltb i n)
  where
    go : (t : Bool) → d ≡ cond t d d
    go true = refl
    go false = refl
get_d_keep zero d (x ∷ l) zero = refl
get_d_keep {A} zero d (x ∷ l) (suc i) =
    get_d_keep zero d l i
    ∙ ap (λ (t : Bool). cond t (get_or l i d) d) (leb-suc-zero i ∙ sym (leb-suc-zero (suc i)))
get_d_keep (suc n) d (x ∷ l) zero = sym (ap (λ (t : Bool). cond t x d) (lt-ltb 0 (suc n) (omega arith)))
get_d_keep (suc n) d (x ∷ l) (suc i) = get_d_keep n d l i ∙ ap (λ (t : Bool). cond t (get_or l i d) d) (sym (leb-suc-suc (suc i) n))

pub keep_row : {A : Type 0} (n k : ℕ) (d : A) (l : List A) (f : ℕ → A) → length l ≡ k → ((i : ℕ) → i < k → f i ≡ cond (ltb i n) (get_or l i d) d) → row k f ≡ keep_first n d l
keep_row n k d l f e h =
    ext_get_or d (row k f) (keep_first n d l) (length_row k f ∙ sym (length_keep n d l ∙ e))
    (λ i b. let c : i < k = omega (arith, b, length_row k f) in get_d_row k f i d c ∙ h i c ∙ sym (get_d_keep n d l i))

-- ---- numbers that fit
pub bits_small : (x : Float) → T (held x) → bits x < 256 ^ 8
bits_small x t = to_bits-lt binary64 x t

pub fit_append : (ws vs ns ms : List ℕ) → T (fit_all ws ns) → T (fit_all vs ms) → T (fit_all (ws ++ vs) (ns ++ ms))
unfolding fit_all
fit_append [] vs [] ms t u = u
fit_append [] vs (n ∷ ns) ms t u = absurd t
fit_append (w ∷ ws) vs [] ms t u = absurd t
fit_append (w ∷ ws) vs (n ∷ ns) ms t u =
    and_i (ltb n (256 ^ w)) (fit_all (ws ++ vs) (ns ++ ms)) (and_l (ltb n (256 ^ w)) (fit_all ws ns) t) (fit_append ws vs ns ms (and_r (ltb n (256 ^ w)) (fit_all ws ns) t) u)

four_fit : (t a b c : ℕ) → t < 256 → a < 256 ^ 8 → b < 256 ^ 8 → c < 256 ^ 8 → T (fit_all slot_widths (t ∷ a ∷ b ∷ c ∷ []))
four_fit t a b c p q r s = fit_cons 1 t _ _ p (fit_cons 8 a _ _ q (fit_cons 8 b _ _ r (fit_cons 8 c _ _ s fit_nil)))

-- ---- one place of a pole
record Slot (counted : Bool) (s : Pole) : Type 0 where
  tag : ℕ
  a : ℕ
  b : ℕ
  c : ℕ
  are : slot_nums counted s ≡ tag ∷ a ∷ b ∷ c ∷ []
  fit : T (fit_all slot_widths (tag ∷ a ∷ b ∷ c ∷ []))
  shaped : slot_shaped counted tag a b c ≡ true
  good : three_fine a b c ≡ true
  back : slot_of tag a b c ≡ cond counted s blank_slot

zero_fine : fine 0 ≡ true
unfolding fine nan_bits
zero_fine = refl

slot_blank : (s : Pole) → Slot false s
unfolding slot_shaped
slot_blank s = record { tag = 0; a = 0; b = 0; c = 0; are = refl; fit = four_fit 0 0 0 0 (omega arith) (omega arith) (omega arith) (omega arith); shaped = refl; good = rw zero_fine; back = refl }

slot_pole : (p : Pole) → T (pole_held p) → Slot true p
unfolding slot_shaped
slot_pole (Lorentz d w g) t =
    let both = and_l (held d && held w) (held g) t in
    let fd = and_l (held d) (held w) both in
    let fw = and_r (held d) (held w) both in
    let fg = and_r (held d && held w) (held g) t in
    record {
      tag = 1;
      a = bits d;
      b = bits w;
      c = bits g;
      are = refl;
      fit = four_fit 1 (bits d) (bits w) (bits g) (omega arith) (bits_small d fd) (bits_small w fw) (bits_small g fg);
      shaped = refl;
      good = rw (bits_fine d fd, bits_fine w fw, bits_fine g fg);
      back = rw (of_bits-to_bits binary64 d fd, of_bits-to_bits binary64 w fw, of_bits-to_bits binary64 g fg);
    }
slot_pole (Drude w g) t =
    let fw = and_l (held w) (held g) t in
    let fg = and_r (held w) (held g) t in
    record {
      tag = 2;
      a = bits w;
      b = bits g;
      c = 0;
      are = refl;
      fit = four_fit 2 (bits w) (bits g) 0 (omega arith) (bits_small w fw) (bits_small g fg) (omega arith);
      shaped = refl;
      good = rw (bits_fine w fw, bits_fine g fg, zero_fine);
      back = rw (of_bits-to_bits binary64 w fw, of_bits-to_bits binary64 g fg);
    }
slot_pole (Debye d t') t =
    let fd = and_l (held d) (held t') t in
    let ft = and_r (held d) (held t') t in
    record {
      tag = 3;
      a = bits d;
      b = bits t';
      c = 0;
      are = refl;
      fit = four_fit 3 (bits d) (bits t') 0 (omega arith) (bits_small d fd) (bits_small t' ft) (omega arith);
      shaped = refl;
      good = rw (bits_fine d fd, bits_fine t' ft, zero_fine);
      back = rw (of_bits-to_bits binary64 d fd, of_bits-to_bits binary64 t' ft);
    }

slot_is : (counted : Bool) (s : Pole) → T (pole_held s) → Slot counted s
slot_is true s t = slot_pole s t
slot_is false s t = slot_blank s

-- ---- twenty numbers
module _ (x y z n t a b c t' a' b' c' t'' a'' b'' c'' u v w o : ℕ) where
  abbrev twenty : List ℕ
  twenty = x ∷ y ∷ z ∷ n ∷ t ∷ a ∷ b ∷ c ∷ t' ∷ a' ∷ b' ∷ c' ∷ t'' ∷ a'' ∷ b'' ∷ c'' ∷ u ∷ v ∷ w ∷ o ∷ []

  twenty_shaped : slot_shaped (ltb 0 n) t a b c ≡ true → slot_shaped (ltb 1 n) t' a' b' c' ≡ true → slot_shaped (ltb 2 n) t'' a'' b'' c'' ≡ true → slot_shaped (ltb 3 n) u v w o ≡ true →
      ml_shaped twenty ≡ true
  unfolding ml_shaped all_below
  twenty_shaped i j k l = rw (i, j, k, l)

  twenty_fine : ml_shaped twenty ≡ true → three_fine x y z ≡ true → three_fine a b c ≡ true → three_fine a' b' c' ≡ true → three_fine a'' b'' c'' ≡ true → three_fine v w o ≡ true → ml_fine twenty ≡ true
  unfolding ml_fine all_below
  twenty_fine p q i j k l = rw (p, q, i, j, k, l)

  twenty_of : (d e f : Float) (p : List Pole) → of_bits binary64 x ≡ d → of_bits binary64 y ≡ e → of_bits binary64 z ≡ f →
      (slot_of t a b c ∷ slot_of t' a' b' c' ∷ slot_of t'' a'' b'' c'' ∷ slot_of u v w o ∷ []) ≡ p →
      ml_of twenty ≡ record { eps_inf = d; sigma = e; mu_r = f; pole_count = n; poles = p }
  unfolding ml_of joined
  twenty_of d e f p i j k l = rw (i, j, k, l)

five_parts : (h a b c d a' b' c' d' : List ℕ) → a ≡ a' → b ≡ b' → c ≡ c' → d ≡ d' → h ++ a ++ b ++ c ++ d ≡ h ++ a' ++ b' ++ c' ++ d'
five_parts h a b c d a' b' c' d' p q r s = rw (p, q, r, s)

module _ (m : DispersiveMaterial) (h : MaterialHeld m) where
  place : (i : ℕ) → i < 4 → Slot (ltb i m.pole_count) (get_or m.poles i blank_slot)
  place i l = slot_is (ltb i m.pole_count) (get_or m.poles i blank_slot) (h.each i l)

  abbrev p0 : Slot (ltb 0 m.pole_count) (get_or m.poles 0 blank_slot)
  p0 = place 0 (omega arith)

  abbrev p1 : Slot (ltb 1 m.pole_count) (get_or m.poles 1 blank_slot)
  p1 = place 1 (omega arith)

  abbrev p2 : Slot (ltb 2 m.pole_count) (get_or m.poles 2 blank_slot)
  p2 = place 2 (omega arith)

  abbrev p3 : Slot (ltb 3 m.pole_count) (get_or m.poles 3 blank_slot)
  p3 = place 3 (omega arith)

  abbrev front : List ℕ
  front = bits m.eps_inf ∷ bits m.sigma ∷ bits m.mu_r ∷ m.pole_count ∷ []

  abbrev four_of : {t : Bool} {s : Pole} → Slot t s → List ℕ
  four_of p = p.tag ∷ p.a ∷ p.b ∷ p.c ∷ []

  numbers_are : ml_nums m ≡ front ++ four_of p0 ++ four_of p1 ++ four_of p2 ++ four_of p3
  unfolding ml_nums joined
  numbers_are = five_parts front _ _ _ _ _ _ _ _ p0.are p1.are p2.are p3.are

  front_fit : m.pole_count < 256 → T (fit_all front_widths front)
  front_fit k =
      fit_cons 8 _ _ _ (bits_small m.eps_inf h.eps) (fit_cons 8 _ _ _ (bits_small m.sigma h.loss) (fit_cons 8 _ _ _ (bits_small m.mu_r h.mu) (fit_cons 1 _ _ _ k fit_nil)))

  pub material_fit : m.pole_count < 256 → T (fit_all ml_widths (ml_nums m))
  material_fit k =
      rw numbers_are
      (fit_append _ slot_widths _ (four_of p3)
      (fit_append _ slot_widths _ (four_of p2) (fit_append _ slot_widths _ (four_of p1) (fit_append _ slot_widths front (four_of p0) (front_fit k) p0.fit) p1.fit) p2.fit) p3.fit)

  pub material_shaped : ml_shaped (ml_nums m) ≡ true
  material_shaped = ap ml_shaped numbers_are ∙ twenty_shaped _ _ _ _ _ _ _ _ _ _ _ _ _ _ _ _ _ _ _ _ p0.shaped p1.shaped p2.shaped p3.shaped

  pub material_fine : ml_fine (ml_nums m) ≡ true
  material_fine =
      ap ml_fine numbers_are
      ∙ twenty_fine _ _ _ _ _ _ _ _ _ _ _ _ _ _ _ _ _ _ _ _ (sym (ap ml_shaped numbers_are) ∙ material_shaped)
      (rw (bits_fine m.eps_inf h.eps, bits_fine m.sigma h.loss, bits_fine m.mu_r h.mu)) p0.good p1.good p2.good p3.good

  abbrev kept : ℕ → Pole
  kept i = cond (ltb i m.pole_count) (get_or m.poles i blank_slot) blank_slot

  four_row : (s t u v : Pole) → s ≡ kept 0 → t ≡ kept 1 → u ≡ kept 2 → v ≡ kept 3 → (s ∷ t ∷ u ∷ v ∷ []) ≡ row 4 kept
  unfolding joined
  four_row s t u v p q i j = rw (p, q, i, j)

  pub material_back : ml_of (ml_nums m) ≡ canon_material m
  unfolding canon_material
  material_back =
      ap ml_of numbers_are
      ∙ twenty_of _ _ _ _ _ _ _ _ _ _ _ _ _ _ _ _ _ _ _ _ _ _ _ _ (of_bits-to_bits binary64 m.eps_inf h.eps) (of_bits-to_bits binary64 m.sigma h.loss) (of_bits-to_bits binary64 m.mu_r h.mu)
      (four_row _ _ _ _ p0.back p1.back p2.back p3.back ∙ keep_row m.pole_count 4 blank_slot m.poles kept h.four (λ i l. refl))
