-- Where code writes the records behind GH's. Definitions only.
use Rattle.std.specs.Prelude.{ℕ, ◌+◌, ◌*◌, false}
use Rattle.heads.specs.Numbers.{ml_length}
use Rattle.format.specs.Rewind.{size_by}

-- where ML's record begins, and where those of the stores do, behind it
abbrev pub list_place : ℕ
list_place = 6 + size_by false

abbrev pub stores_place : (materials : ℕ) → ℕ
stores_place m = list_place + 6 + ml_length * m
