-- The numbers of GH as code reads them, part by part. Assumes nothing.
use Prim.Native.Nat.{ℕ, ◌+◌}
use mathlib.Core.Path.{◌≡◌, sym, ap, ◌∙◌}
use mathlib.Core.List.{List, [], ◌∷◌, ◌++◌}
use lib.ListN.{get_or, drop}
use Rattle.codec.specs.Lists.{part}
use Rattle.codec.specs.Bytes.{unle, nums}
use Rattle.codec.proofs.Row.{nums_at_lem, row_at}
use Rattle.heads.specs.Numbers.{old_widths}
use Rattle.heads.specs.Payloads.{head_of}
use Rattle.heads.specs.Inner.Parts.{size_widths, flag_widths, count_widths, corner_widths, float_widths, scale_widths}

pub head_read : (s : List ℕ) (at : ℕ) (n f c g x : List ℕ) (steps k : ℕ) → n ≡ nums size_widths (drop at s) → f ≡ nums flag_widths (drop (at + 6) s) → c ≡ nums count_widths (drop (at + 13) s) →
    g ≡ nums corner_widths (drop (at + 17) s) → x ≡ nums float_widths (drop (at + 29) s) → steps ≡ unle (part s (at + 69) 4) →
    (get_or n 0 0 ∷ get_or n 1 0 ∷ get_or n 2 0 ∷ get_or f 0 0 ∷ get_or f 1 0 ∷ get_or f 2 0 ∷ get_or f 3 0 ∷ get_or f 4 0 ∷ get_or f 5 0 ∷ get_or f 6 0 ∷ get_or c 0 0 ∷ get_or c 1 0 ∷ get_or c 2 0 ∷ get_or c 3 0
    ∷ get_or g 0 0 ∷ get_or g 1 0 ∷ get_or g 2 0 ∷ get_or g 3 0 ∷ get_or g 4 0 ∷ get_or g 5 0 ∷ get_or x 0 0 ∷ get_or x 1 0 ∷ get_or x 2 0 ∷ get_or x 3 0 ∷ get_or x 4 0 ∷ steps ∷ k ∷ []) ≡ nums old_widths (drop at s) ++ (k ∷ [])
head_read s at n f c g x steps k en ef ec eg ex es =
    rw (en ∙ row_at 2 (2 ∷ 2 ∷ []) s at, ef ∙ nums_at_lem flag_widths s at 6, ec ∙ nums_at_lem count_widths s at 13, eg ∙ nums_at_lem corner_widths s at 17, ex ∙ nums_at_lem float_widths s at 29, es)
    (ap (λ (l : List ℕ). l ++ (k ∷ [])) (sym (row_at 2 (2 ∷ 2 ∷ flag_widths ++ count_widths ++ corner_widths ++ float_widths ++ (4 ∷ [])) s at)))

-- with the last byte
pub head_whole : (s : List ℕ) (at : ℕ) (n : List ℕ) (k : ℕ) → n ≡ nums old_widths (drop at s) ++ (k ∷ []) → k ≡ unle (part s (at + 73) 1) → n ≡ head_of (drop at s)
head_whole s at n k e ek =
    e
    ∙ ap (λ (l : List ℕ). l ++ (k ∷ [])) (row_at 2 (2 ∷ 2 ∷ flag_widths ++ count_widths ++ corner_widths ++ float_widths ++ (4 ∷ [])) s at)
    ∙ rw ek
    (sym (row_at 2 (2 ∷ 2 ∷ flag_widths ++ count_widths ++ scale_widths) s at))
