-- Laws of a record's six bytes: written they are read back with no fault, and no fault says that they stand there.
use mathlib.Core.Path.{◌≡◌, refl, sym, ap, ◌∙◌}
use mathlib.Core.List.{List, [], ◌∷◌, ◌++◌}
use mathlib.Core.Bool.{Bool, true, false, cond, not}
use Prim.Native.Nat.{ℕ, ◌+◌, ◌-◌, ◌^◌, ◌≤◌, ◌<◌}
use native.Mathlib.Nat.{add-zero}
use native.Mathlib.Omega.{arith}
use borrow.Author.Tests.{lt-ltb, le-ltb, eq-eqb, ltb-false, eqb-true}
use lib.Dec.{T, ltb, eqb}
use lib.ListN.{length, take, drop, get_or, length-append, length-drop}
use lib.Seq.{length-take-le, take-add}
use Rattle.codec.specs.Lists.{part}
use Rattle.codec.specs.Bytes.{unle, bytes_fit, enc, nums, total}
use Rattle.codec.specs.Frame.{frame_bytes, frame_fault, short, bad_mark, bad_record}
use Rattle.codec.proofs.Lists.{part_drop, part_take}
use Rattle.codec.proofs.Row.{nums_enc, enc_nums, fit_nil, fit_cons, length_enc}

pub length_frame : (m n : ℕ) → length (frame_bytes m n) ≡ 6
unfolding total
length_frame m n = length_enc (2 ∷ 4 ∷ []) (m ∷ n ∷ []) refl

-- ---- the four tests
-- what they give, in their order
abbrev pub verdict : Bool → Bool → Bool → Bool → ℕ
verdict few same fixed cut = cond few short (cond (not same) bad_mark (cond (not fixed) bad_record (cond cut short 0)))

clean : (a b c d : Bool) → verdict a b c d ≡ 0 → (b ≡ true) × (c ≡ true) × (d ≡ false)
clean true b c d h = absurd (omega arith)
clean false false c d h = absurd (omega arith)
clean false true false d h = absurd (omega arith)
clean false true true true h = absurd (omega arith)
clean false true true false h = (refl, refl, refl)

-- as code makes them, at a place in the bytes
pub frame_at : (s : List ℕ) (at m n : ℕ)
    → frame_fault m n (drop at s) ≡ verdict (ltb (length s - at) 6) (eqb (unle (part s at 2)) m) (eqb (unle (part s (at + 2) 4)) n) (ltb (length s - at) (6 + n))
unfolding frame_fault
frame_at s at m n = rw (length-drop at s, part_drop s at 0 2, part_drop s at 2 4, add-zero at)

-- ---- there and back
-- a record that was written has no fault, whatever follows
pub frame_back : (m : ℕ) (p r : List ℕ) → m < 256 ^ 2 → length p < 256 ^ 4 → frame_fault m (length p) (frame_bytes m (length p) ++ (p ++ r)) ≡ 0
unfolding frame_fault part nums
frame_back m p r hm hp =
    let ws : List ℕ = 2 ∷ 4 ∷ [] in
    let ns : List ℕ = m ∷ length p ∷ [] in
    let l : List ℕ = enc ws ns ++ (p ++ r) in
    let e : nums ws l ≡ ns = nums_enc ws ns (p ++ r) (fit_cons 2 m (4 ∷ []) (length p ∷ []) hm (fit_cons 4 (length p) [] [] hp fit_nil)) in
    let h : 6 + length p ≤ length l = omega (arith, length-append (enc ws ns) (p ++ r), length_frame m (length p), length-append p r) in
    rw (
      le-ltb (length l) 6 (omega arith),
      eq-eqb _ _ (ap (λ (x : List ℕ). get_or x 0 0) e),
      eq-eqb _ _ (ap (λ (x : List ℕ). get_or x 1 0) e),
      le-ltb (length l) (6 + length p) h,
    )

module _ (m n : ℕ) (l : List ℕ) (f : frame_fault m n l ≡ 0) where
  tests : (unle (part l 0 2) ≡ m) × (unle (part l 2 4) ≡ n) × (6 + n ≤ length l)
  unfolding frame_fault
  tests =
      let t = clean (ltb (length l) 6) (eqb (unle (part l 0 2)) m) (eqb (unle (part l 2 4)) n) (ltb (length l) (6 + n)) f in
      (eqb-true _ _ t.0, eqb-true _ _ t.1, ltb-false _ _ t.2)

  -- where there is no fault, the whole record is there
  pub frame_room : 6 + n ≤ length l
  frame_room = tests.2

  -- and bytes begin with it
  pub frame_bytes_lem : T (bytes_fit l) → take (6 + n) l ≡ frame_bytes m n ++ take n (drop 6 l)
  unfolding part nums total
  frame_bytes_lem b =
      take-add 6 n l
      ∙ ap (λ (q : List ℕ). q ++ take n (drop 6 l))
      (sym (enc_nums (2 ∷ 4 ∷ []) l (omega (arith, frame_room)) b)
      ∙ ap (λ (x : ℕ). frame_bytes x (unle (part l 2 4))) tests.0
      ∙ ap (frame_bytes m) tests.1)

  -- cut short anywhere, it is refused as Short (document 01, "The save")
  pub frame_cut : (k : ℕ) → k < 6 + n → frame_fault m n (take k l) ≡ short
  unfolding frame_fault
  frame_cut k h = go (ltb k 6) refl
    where
      e : length (take k l) ≡ k
      e = length-take-le k l (omega (arith, frame_room))

      go : (t : Bool) → ltb k 6 ≡ t → frame_fault m n (take k l) ≡ short
      go true t = rw (e, t)
      go false t =
          let s : 6 ≤ k = ltb-false k 6 t in
          rw (
            e,
            t,
            part_take k l 0 2 (omega arith),
            part_take k l 2 4 (omega arith),
            eq-eqb _ _ tests.0,
            eq-eqb _ _ tests.1,
            lt-ltb k (6 + n) h,
          )
