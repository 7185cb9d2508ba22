-- The two lengths of GH: what its numbers meet at either, and which one bytes have. Assumes nothing.
use Prim.Native.Nat.{ℕ, ◌+◌, ◌≤◌}
use native.Mathlib.Omega.{arith}
use mathlib.Core.Path.{◌≡◌, refl, sym, ap, ◌∙◌}
use mathlib.Core.Bool.{Bool, true, false, and-false}
use mathlib.Core.List.{List, [], ◌∷◌, ◌++◌}
use borrow.Author.Tests.{eqb-true}
use lib.Dec.{T, leb, ltb, eqb}
use lib.ListN.{length, take, length-append}
use Rattle.codec.specs.Lists.{part}
use Rattle.codec.specs.Bytes.{le, unle, bytes_fit, enc, nums, fit_all}
use Rattle.codec.specs.Frame.{frame_fault}
use Rattle.codec.proofs.Row.{enc_nums, enc_append, nums_fit, fit_nil, fit_cons, length_nums}
use Rattle.codec.proofs.Framed.{verdict}
use Rattle.heads.specs.Numbers.{old_widths, old_length, gh_widths, gh_length}
use Rattle.heads.specs.Payloads.{old_head_of, head_by}
use Rattle.heads.proofs.Whole.{old_total, gh_total}
use Rattle.block.proofs.Entry.{fit_append}
use Rattle.format.specs.Rewind.{is_old, size_by}

-- ---- neither length is small
pub size_least : (old : Bool) → old_length ≤ size_by old
size_least true = omega arith
size_least false = omega arith

-- ---- the twenty-seven numbers, whichever length they are read at
pub long_by : (old : Bool) (p : List ℕ) → length (head_by old p) ≡ 27
long_by true p = length-append (nums old_widths p) (0 ∷ []) ∙ omega (arith, length_nums old_widths p)
long_by false p = length_nums gh_widths p

pub fit_by : (old : Bool) (p : List ℕ) → size_by old ≤ length p → T (bytes_fit p) → T (fit_all gh_widths (head_by old p))
fit_by true p h t = fit_append old_widths (1 ∷ []) (nums old_widths p) (0 ∷ []) (nums_fit old_widths p (omega (arith, old_total, h)) t) (fit_cons 1 0 [] [] (omega arith) fit_nil)
fit_by false p h t = nums_fit gh_widths p (omega (arith, gh_total, h)) t

-- written again: a new one's bytes are its own, an old one's have a 0 behind them
pub enc_new : (old : Bool) (p : List ℕ) → old ≡ false → size_by old ≤ length p → T (bytes_fit p) → enc gh_widths (head_by old p) ≡ take (size_by old) p
enc_new true p e h t = absurd (let z : ◌≡◌ {A = ℕ} 0 1 = cc in let w : ⊥ = omega arith in w)
enc_new false p e h t = enc_nums gh_widths p (omega (arith, gh_total, h)) t ∙ ap (λ (k : ℕ). take k p) gh_total

pub enc_old : (p : List ℕ) → old_length ≤ length p → T (bytes_fit p) → enc gh_widths (old_head_of p) ≡ take old_length p ++ (0 ∷ [])
unfolding enc le
enc_old p h t =
    enc_append old_widths (1 ∷ []) (nums old_widths p) (0 ∷ []) (sym (length_nums old_widths p))
    ∙ ap (λ (x : List ℕ). x ++ (0 ∷ [])) (enc_nums old_widths p (omega (arith, old_total, h)) t ∙ ap (λ (k : ℕ). take k p) old_total)

-- ---- which length bytes have
third : (a b c d : Bool) → verdict a b c d ≡ 0 → c ≡ true
third true b c d h = absurd (let z : ⊥ = omega arith in z)
third false false c d h = absurd (let z : ⊥ = omega arith in z)
third false true false d h = absurd (let z : ⊥ = omega arith in z)
third false true true d h = refl

-- a frame without fault says the length that is expected
pub frame_says : (m n : ℕ) (l : List ℕ) → frame_fault m n l ≡ 0 → unle (part l 2 4) ≡ n
unfolding frame_fault
frame_says m n l f = eqb-true _ _ (third (ltb (length l) 6) (eqb (unle (part l 0 2)) m) (eqb (unle (part l 2 4)) n) (ltb (length l) (6 + n)) f)

pub is_new : (l : List ℕ) → unle (part l 2 4) ≡ gh_length → is_old l ≡ false
unfolding is_old
is_new l e = rw e (and-false (leb 6 (length l)))
