-- The widths of GH in the parts that code reads and writes. Definitions only.
use Rattle.std.specs.Prelude.{ℕ, List, [], ◌∷◌, ◌++◌}

abbrev pub size_widths : List ℕ
size_widths = 2 ∷ 2 ∷ 2 ∷ []

abbrev pub flag_widths : List ℕ
flag_widths = 1 ∷ 1 ∷ 1 ∷ 1 ∷ 1 ∷ 1 ∷ 1 ∷ []

-- three counts and the region's kind
abbrev pub count_widths : List ℕ
count_widths = 1 ∷ 1 ∷ 1 ∷ 1 ∷ []

abbrev pub corner_widths : List ℕ
corner_widths = 2 ∷ 2 ∷ 2 ∷ 2 ∷ 2 ∷ 2 ∷ []

-- spacings and time
abbrev pub float_widths : List ℕ
float_widths = 8 ∷ 8 ∷ 8 ∷ 8 ∷ 8 ∷ []

-- up to the corners, and from there on
abbrev pub plan_widths : List ℕ
plan_widths = size_widths ++ flag_widths ++ count_widths

abbrev pub scale_widths : List ℕ
scale_widths = corner_widths ++ float_widths ++ (4 ∷ 1 ∷ [])
