-- Document 01's two lines for the fresh study of one cell, and some numbers, worked. Assumes nothing.
use Prim.Native.Nat.{ℕ}
use mathlib.Core.Path.{◌≡◌, refl}
use mathlib.Core.List.{List, [], ◌∷◌, ◌++◌}
use Rattle.lines.specs.Listing.{hex_digits, hex, decimal_in, decimal, line, head_line, cell_line, refused_line}

-- study 1 1 1 steps 0 materials 1
pub first_line :
    head_line 1 1 1 0 1
    ≡ 115 ∷ 116 ∷ 117 ∷ 100 ∷ 121 ∷ 32 ∷ 49 ∷ 32 ∷ 49 ∷ 32 ∷ 49 ∷ 32 ∷ 115 ∷ 116 ∷ 101 ∷ 112 ∷ 115 ∷ 32 ∷ 48 ∷ 32 ∷ 109 ∷ 97 ∷ 116 ∷ 101 ∷ 114 ∷ 105 ∷ 97 ∷ 108 ∷ 115 ∷ 32 ∷ 49 ∷ 10 ∷ []
unfolding head_line line decimal decimal_in
first_line = refl

-- a blank and sixteen zeros
abbrev zeros : List ℕ
zeros = 32 ∷ 48 ∷ 48 ∷ 48 ∷ 48 ∷ 48 ∷ 48 ∷ 48 ∷ 48 ∷ 48 ∷ 48 ∷ 48 ∷ 48 ∷ 48 ∷ 48 ∷ 48 ∷ 48 ∷ []

-- 0 0 0 and six times sixteen zeros
pub second_line : cell_line 0 0 0 (λ _. 0) (λ _. 0) ≡ (48 ∷ 32 ∷ 48 ∷ 32 ∷ 48 ∷ []) ++ (zeros ++ (zeros ++ (zeros ++ (zeros ++ (zeros ++ (zeros ++ (10 ∷ [])))))))
unfolding cell_line line decimal decimal_in hex_digits
second_line = refl

-- refused 13
pub refused_line_lem : refused_line 13 ≡ 114 ∷ 101 ∷ 102 ∷ 117 ∷ 115 ∷ 101 ∷ 100 ∷ 32 ∷ 49 ∷ 51 ∷ 10 ∷ []
unfolding refused_line line decimal decimal_in
refused_line_lem = refl

-- 1024, and FEDCBA9876543210
pub numbers :
    (decimal 1024 ≡ 49 ∷ 48 ∷ 50 ∷ 52 ∷ [])
    × (hex 0xFEDCBA9876543210 ≡ 70 ∷ 69 ∷ 68 ∷ 67 ∷ 66 ∷ 65 ∷ 57 ∷ 56 ∷ 55 ∷ 54 ∷ 53 ∷ 52 ∷ 51 ∷ 50 ∷ 49 ∷ 48 ∷ [])
unfolding decimal decimal_in hex_digits
numbers = (refl, refl)
