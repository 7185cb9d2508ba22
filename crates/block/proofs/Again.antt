-- Numbers that a save may have, read as a record or a material and written again, are the same numbers. Assumes nothing.
use Prim.Native.Nat.{ℕ, zero, suc, ◌^◌, ◌≤◌, ◌<◌}
use native.Mathlib.Omega.{arith}
use mathlib.Core.Path.{◌≡◌, refl, sym, ◌∙◌, subst}
use mathlib.Core.Bool.{Bool, true, false, ◌&&◌, ◌||◌}
use mathlib.Core.List.{List, [], ◌∷◌, ◌++◌}
use borrow.Author.Tests.{leb-true, eqb-true}
use lib.Dec.{T, leb, ltb, eqb}
use lib.ListN.{length, get_or}
use lib.Seq.{ext_get_or}
use lib.Ieee.{binary64, of_bits}
use Rattle.codec.specs.Bytes.{fine, fit_all, bits}
use Rattle.codec.proofs.Patterns.{bits_back}
use Rattle.codec.proofs.Row.{fit_at}
use Rattle.dispersion.specs.declared.DispersiveMaterial.{DispersiveMaterial}
use Rattle.dispersion.specs.declared.Pole.{Pole}
use Rattle.cells.specs.Cells.{joined, row}
use Rattle.cells.specs.Reading.{length_row}
use Rattle.cells.proofs.Written.{get_d_row}
use Rattle.grid.specs.declared.Region.{Region}
use Rattle.grid.specs.Canon.{canon_region}
use Rattle.grid.specs.Fault.{all_below}
use Rattle.grid.proofs.Tests.{and_left, and_right}
use Rattle.heads.specs.Numbers.{flag_num, kind_num, kind_of, gh_widths, gh_nums, flags_fine, corners_fine, gh_shaped, gh_fine, gh_of, slot_nums, slot_of, slot_shaped, three_fine, ml_widths, ml_nums, ml_shaped, ml_fine, ml_of}

-- ---- numbers of a list by their places
places : (l : List ℕ) (n : ℕ) → length l ≡ n → row n (λ i. get_or l i 0) ≡ l
places l n e =
    ext_get_or 0 (row n (λ i. get_or l i 0)) l (length_row n _ ∙ sym e) (λ i h. get_d_row n (λ k. get_or l k 0) i 0 (subst (λ (k : ℕ). i < k) (length_row n _) h))

float_back : (n : ℕ) → n < 256 ^ 8 → fine n ≡ true → bits (of_bits binary64 n) ≡ n
float_back n h e = bits_back n h e

-- ---- one place of a pole
slot_zero : (t a b c : ℕ) (s : Pole) → slot_shaped false t a b c ≡ true → slot_nums false s ≡ t ∷ a ∷ b ∷ c ∷ []
unfolding slot_shaped
slot_zero t a b c s e =
    let three = and_left (eqb t 0 && eqb a 0 && eqb b 0) (eqb c 0) e in
    let two = and_left (eqb t 0 && eqb a 0) (eqb b 0) three in
    rw (eqb-true t 0 (and_left (eqb t 0) (eqb a 0) two), eqb-true a 0 (and_right (eqb t 0) (eqb a 0) two), eqb-true b 0 (and_right (eqb t 0 && eqb a 0) (eqb b 0) three), eqb-true c 0 (and_right (eqb t 0 && eqb a 0 && eqb b 0) (eqb c 0) e))

module _ (a b c : ℕ) (fa : bits (of_bits binary64 a) ≡ a) (fb : bits (of_bits binary64 b) ≡ b) (fc : bits (of_bits binary64 c) ≡ c) where
  slot_tag : (t : ℕ) → 1 ≤ t → t ≤ 3 → (eqb t 1 || eqb c 0) ≡ true → slot_nums true (slot_of t a b c) ≡ t ∷ a ∷ b ∷ c ∷ []
  slot_tag zero p q e = absurd (let z : ⊥ = omega arith in z)
  slot_tag (suc zero) p q e = rw (fa, fb, fc)
  slot_tag (suc (suc zero)) p q e = rw (fa, fb, eqb-true c 0 e)
  slot_tag (suc (suc (suc zero))) p q e = rw (fa, fb, eqb-true c 0 e)
  slot_tag (suc (suc (suc (suc t)))) p q e = absurd (let z : ⊥ = omega arith in z)

slot_again : (k : Bool) (t a b c : ℕ) → a < 256 ^ 8 → b < 256 ^ 8 → c < 256 ^ 8 → slot_shaped k t a b c ≡ true → three_fine a b c ≡ true → slot_nums k (slot_of t a b c) ≡ t ∷ a ∷ b ∷ c ∷ []
unfolding slot_shaped
slot_again false t a b c p q r e f = slot_zero t a b c (slot_of t a b c) e
slot_again true t a b c p q r e f =
    let last = eqb t 1 || eqb c 0 in
    let two = and_left (leb 1 t && leb t 3) last e in
    let both = and_left (fine a && fine b) (fine c) f in
    slot_tag a b c (float_back a p (and_left (fine a) (fine b) both)) (float_back b q (and_right (fine a) (fine b) both)) (float_back c r (and_right (fine a && fine b) (fine c) f))
    t (leb-true 1 t (and_left (leb 1 t) (leb t 3) two)) (leb-true t 3 (and_right (leb 1 t) (leb t 3) two)) (and_right (leb 1 t && leb t 3) last e)

-- ---- one material
twenty_again : (l : List ℕ) (x y z : ℕ) (a b c d : List ℕ) → length l ≡ 20 → x ≡ get_or l 0 0 → y ≡ get_or l 1 0 → z ≡ get_or l 2 0 →
    a ≡ get_or l 4 0 ∷ get_or l 5 0 ∷ get_or l 6 0 ∷ get_or l 7 0 ∷ [] → b ≡ get_or l 8 0 ∷ get_or l 9 0 ∷ get_or l 10 0 ∷ get_or l 11 0 ∷ [] →
    c ≡ get_or l 12 0 ∷ get_or l 13 0 ∷ get_or l 14 0 ∷ get_or l 15 0 ∷ [] → d ≡ get_or l 16 0 ∷ get_or l 17 0 ∷ get_or l 18 0 ∷ get_or l 19 0 ∷ [] →
    (x ∷ y ∷ z ∷ get_or l 3 0 ∷ []) ++ a ++ b ++ c ++ d ≡ l
unfolding joined
twenty_again l x y z a b c d e p q r i j k m = rw (p, q, r, i, j, k, m) (places l 20 e)

pub material_again : (l : List ℕ) → length l ≡ 20 → T (fit_all ml_widths l) → ml_fine l ≡ true → ml_nums (ml_of l) ≡ l
unfolding ml_nums ml_of ml_fine ml_shaped joined all_below
material_again l e t f =
    let n : ℕ → ℕ = λ i. get_or l i 0 in
    let s0 = slot_shaped (ltb 0 (n 3)) (n 4) (n 5) (n 6) (n 7) in
    let s1 = slot_shaped (ltb 1 (n 3)) (n 8) (n 9) (n 10) (n 11) in
    let s2 = slot_shaped (ltb 2 (n 3)) (n 12) (n 13) (n 14) (n 15) in
    let s3 = slot_shaped (ltb 3 (n 3)) (n 16) (n 17) (n 18) (n 19) in
    let x0 = three_fine (n 0) (n 1) (n 2) in
    let x1 = three_fine (n 5) (n 6) (n 7) in
    let x2 = three_fine (n 9) (n 10) (n 11) in
    let x3 = three_fine (n 13) (n 14) (n 15) in
    let x4 = three_fine (n 17) (n 18) (n 19) in
    let sx = and_left (s0 && s1 && s2 && s3 && x0) (x1 && x2 && x3 && x4) f in
    let s = and_left (s0 && s1 && s2 && s3) x0 sx in
    let front = and_right (s0 && s1 && s2 && s3) x0 sx in
    let x = and_right (s0 && s1 && s2 && s3 && x0) (x1 && x2 && x3 && x4) f in
    let s012 = and_left (s0 && s1 && s2) s3 s in
    let s01 = and_left (s0 && s1) s2 s012 in
    let x123 = and_left (x1 && x2 && x3) x4 x in
    let x12 = and_left (x1 && x2) x3 x123 in
    let both = and_left (fine (n 0) && fine (n 1)) (fine (n 2)) front in
    let w : (i : ℕ) → i < 20 → n i < 256 ^ get_or ml_widths i 0 = λ i h. fit_at ml_widths l i t h in
    twenty_again l _ _ _ _ _ _ _ e (float_back (n 0) (w 0 (omega arith)) (and_left (fine (n 0)) (fine (n 1)) both)) (float_back (n 1) (w 1 (omega arith)) (and_right (fine (n 0)) (fine (n 1)) both))
    (float_back (n 2) (w 2 (omega arith)) (and_right (fine (n 0) && fine (n 1)) (fine (n 2)) front))
    (slot_again (ltb 0 (n 3)) (n 4) (n 5) (n 6) (n 7) (w 5 (omega arith)) (w 6 (omega arith)) (w 7 (omega arith)) (and_left s0 s1 s01) (and_left x1 x2 x12))
    (slot_again (ltb 1 (n 3)) (n 8) (n 9) (n 10) (n 11) (w 9 (omega arith)) (w 10 (omega arith)) (w 11 (omega arith)) (and_right s0 s1 s01) (and_right x1 x2 x12))
    (slot_again (ltb 2 (n 3)) (n 12) (n 13) (n 14) (n 15) (w 13 (omega arith)) (w 14 (omega arith)) (w 15 (omega arith)) (and_right (s0 && s1) s2 s012) (and_right (x1 && x2) x3 x123))
    (slot_again (ltb 3 (n 3)) (n 16) (n 17) (n 18) (n 19) (w 17 (omega arith)) (w 18 (omega arith)) (w 19 (omega arith)) (and_right (s0 && s1 && s2) s3 s) (and_right (x1 && x2 && x3) x4 x))

-- ---- the record itself
flag_again : (n : ℕ) → leb n 1 ≡ true → flag_num (eqb n 1) ≡ n
flag_again zero e = refl
flag_again (suc zero) e = refl
flag_again (suc (suc n)) e = absurd (let z = leb-true (suc (suc n)) 1 e in let w : ⊥ = omega arith in w)

abbrev region_nums : Region → List ℕ
region_nums g = kind_num g.kind ∷ g.i0 ∷ g.i1 ∷ g.j0 ∷ g.j1 ∷ g.k0 ∷ g.k1 ∷ []

zero_corners : (a b c d e f : ℕ) → (eqb a 0 && eqb b 0 && eqb c 0 && eqb d 0 && eqb e 0 && eqb f 0) ≡ true → (0 ∷ 0 ∷ 0 ∷ 0 ∷ 0 ∷ 0 ∷ 0 ∷ []) ≡ 0 ∷ a ∷ b ∷ c ∷ d ∷ e ∷ f ∷ []
zero_corners a b c d e f t =
    let A = eqb a 0 in
    let B = eqb b 0 in
    let C = eqb c 0 in
    let D = eqb d 0 in
    let E = eqb e 0 in
    let F = eqb f 0 in
    let t5 = and_left (A && B && C && D && E) F t in
    let t4 = and_left (A && B && C && D) E t5 in
    let t3 = and_left (A && B && C) D t4 in
    let t2 = and_left (A && B) C t3 in
    rw (eqb-true a 0 (and_left A B t2), eqb-true b 0 (and_right A B t2), eqb-true c 0 (and_right (A && B) C t3), eqb-true d 0 (and_right (A && B && C) D t4), eqb-true e 0 (and_right (A && B && C && D) E t5), eqb-true f 0 (and_right (A && B && C && D && E) F t))

region_again : (k a b c d e f : ℕ) → leb k 3 ≡ true → (ltb 0 k || (eqb a 0 && eqb b 0 && eqb c 0 && eqb d 0 && eqb e 0 && eqb f 0)) ≡ true →
    region_nums (canon_region (record { kind = kind_of k; i0 = a; i1 = b; j0 = c; j1 = d; k0 = e; k1 = f })) ≡ k ∷ a ∷ b ∷ c ∷ d ∷ e ∷ f ∷ []
unfolding canon_region
region_again zero a b c d e f h t = zero_corners a b c d e f t
region_again (suc zero) a b c d e f h t = refl
region_again (suc (suc zero)) a b c d e f h t = refl
region_again (suc (suc (suc zero))) a b c d e f h t = refl
region_again (suc (suc (suc (suc k)))) a b c d e f h t = absurd (let z = leb-true (suc (suc (suc (suc k)))) 3 h in let w : ⊥ = omega arith in w)

seven_again : (a b c d e f g : ℕ) → leb a 1 ≡ true → leb b 1 ≡ true → leb c 1 ≡ true → leb d 1 ≡ true → leb e 1 ≡ true → leb f 1 ≡ true → leb g 1 ≡ true →
    (flag_num (eqb a 1) ∷ flag_num (eqb b 1) ∷ flag_num (eqb c 1) ∷ flag_num (eqb d 1) ∷ flag_num (eqb e 1) ∷ flag_num (eqb f 1) ∷ flag_num (eqb g 1) ∷ []) ≡ a ∷ b ∷ c ∷ d ∷ e ∷ f ∷ g ∷ []
seven_again a b c d e f g p q r s t u v = rw (flag_again a p, flag_again b q, flag_again c r, flag_again d s, flag_again e t, flag_again f u, flag_again g v)

five_again : (a b c d e : ℕ) → a < 256 ^ 8 → b < 256 ^ 8 → c < 256 ^ 8 → d < 256 ^ 8 → e < 256 ^ 8 → (fine a && fine b && fine c && fine d && fine e) ≡ true →
    (bits (of_bits binary64 a) ∷ bits (of_bits binary64 b) ∷ bits (of_bits binary64 c) ∷ bits (of_bits binary64 d) ∷ bits (of_bits binary64 e) ∷ []) ≡ a ∷ b ∷ c ∷ d ∷ e ∷ []
five_again a b c d e ha hb hc hd he t =
    let t4 = and_left (fine a && fine b && fine c && fine d) (fine e) t in
    let t3 = and_left (fine a && fine b && fine c) (fine d) t4 in
    let t2 = and_left (fine a && fine b) (fine c) t3 in
    rw (float_back a ha (and_left (fine a) (fine b) t2), float_back b hb (and_right (fine a) (fine b) t2), float_back c hc (and_right (fine a && fine b) (fine c) t3), float_back d hd (and_right (fine a && fine b && fine c) (fine d) t4), float_back e he (and_right (fine a && fine b && fine c && fine d) (fine e) t))

gathered : (l f g x : List ℕ) → length l ≡ 27 → f ≡ get_or l 3 0 ∷ get_or l 4 0 ∷ get_or l 5 0 ∷ get_or l 6 0 ∷ get_or l 7 0 ∷ get_or l 8 0 ∷ get_or l 9 0 ∷ [] →
    g ≡ get_or l 13 0 ∷ get_or l 14 0 ∷ get_or l 15 0 ∷ get_or l 16 0 ∷ get_or l 17 0 ∷ get_or l 18 0 ∷ get_or l 19 0 ∷ [] → x ≡ get_or l 20 0 ∷ get_or l 21 0 ∷ get_or l 22 0 ∷ get_or l 23 0 ∷ get_or l 24 0 ∷ [] →
    (get_or l 0 0 ∷ get_or l 1 0 ∷ get_or l 2 0 ∷ []) ++ f ++ (get_or l 10 0 ∷ get_or l 11 0 ∷ get_or l 12 0 ∷ g) ++ x ++ (get_or l 25 0 ∷ get_or l 26 0 ∷ []) ≡ l
unfolding joined
gathered l f g x e p q r = rw (p, q, r) (places l 27 e)

-- the flags and the kind of a head that is fine
record Flags (l : List ℕ) : Type 0 where
  f3 : leb (get_or l 3 0) 1 ≡ true
  f4 : leb (get_or l 4 0) 1 ≡ true
  f5 : leb (get_or l 5 0) 1 ≡ true
  f6 : leb (get_or l 6 0) 1 ≡ true
  f7 : leb (get_or l 7 0) 1 ≡ true
  f8 : leb (get_or l 8 0) 1 ≡ true
  f9 : leb (get_or l 9 0) 1 ≡ true
  f13 : leb (get_or l 13 0) 3 ≡ true

flags_of : (l : List ℕ) → flags_fine l ≡ true → Flags l
unfolding flags_fine all_below
flags_of l t =
    let a = leb (get_or l 3 0) 1 in
    let b = leb (get_or l 4 0) 1 in
    let c = leb (get_or l 5 0) 1 in
    let d = leb (get_or l 6 0) 1 in
    let e = leb (get_or l 7 0) 1 in
    let f = leb (get_or l 8 0) 1 in
    let g = leb (get_or l 9 0) 1 in
    let h = leb (get_or l 13 0) 3 in
    let t7 = and_left (a && b && c && d && e && f && g) h t in
    let t6 = and_left (a && b && c && d && e && f) g t7 in
    let t5 = and_left (a && b && c && d && e) f t6 in
    let t4 = and_left (a && b && c && d) e t5 in
    let t3 = and_left (a && b && c) d t4 in
    let t2 = and_left (a && b) c t3 in
    record {
      f3 = and_left a b t2;
      f4 = and_right a b t2;
      f5 = and_right (a && b) c t3;
      f6 = and_right (a && b && c) d t4;
      f7 = and_right (a && b && c && d) e t5;
      f8 = and_right (a && b && c && d && e) f t6;
      f9 = and_right (a && b && c && d && e && f) g t7;
      f13 = and_right (a && b && c && d && e && f && g) h t;
    }

pub head_again : (l : List ℕ) (ms : List DispersiveMaterial) → length l ≡ 27 → T (fit_all gh_widths l) → gh_fine l ≡ true → gh_nums (gh_of l ms) ≡ l
unfolding gh_nums gh_of gh_fine gh_shaped corners_fine all_below
head_again l ms e t f =
    let n : ℕ → ℕ = λ i. get_or l i 0 in
    let floats = fine (n 20) && fine (n 21) && fine (n 22) && fine (n 23) && fine (n 24) in
    let two = and_left (flags_fine l && corners_fine l) floats f in
    let k = flags_of l (and_left (flags_fine l) (corners_fine l) two) in
    let w : (i : ℕ) → i < 27 → n i < 256 ^ get_or gh_widths i 0 = λ i h. fit_at gh_widths l i t h in
    gathered l _ _ _ e (seven_again (n 3) (n 4) (n 5) (n 6) (n 7) (n 8) (n 9) k.f3 k.f4 k.f5 k.f6 k.f7 k.f8 k.f9)
    (region_again (n 13) (n 14) (n 15) (n 16) (n 17) (n 18) (n 19) k.f13 (and_right (flags_fine l) (corners_fine l) two))
    (five_again (n 20) (n 21) (n 22) (n 23) (n 24) (w 20 (omega arith)) (w 21 (omega arith)) (w 22 (omega arith)) (w 23 (omega arith)) (w 24 (omega arith)) (and_right (flags_fine l && corners_fine l) floats f))
