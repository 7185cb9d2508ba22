-- What a study may have at the most (document 01, "Stores and study record"). Definitions only.
use Rattle.std.specs.Prelude.{ℕ}

-- cells along one side, cells in all, pole slots, materials; and the last set of vacuum's constants (document 02, S-7)
abbrev pub max_side : ℕ
max_side = 512

abbrev pub max_cells : ℕ
max_cells = 1048576

abbrev pub max_pole_slots : ℕ
max_pole_slots = 4

abbrev pub max_materials : ℕ
max_materials = 16

abbrev pub max_constants : ℕ
max_constants = 1
