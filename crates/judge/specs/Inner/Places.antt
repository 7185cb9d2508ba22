-- The same records as code judges them: by places among the bytes. Definitions only.
use Rattle.std.specs.Prelude.{ℕ, ◌≤◌, List, map}
use Rattle.grid.specs.declared.stores.Lengths.{Lengths}
use Rattle.format.specs.Records.{Expected}
use Rattle.format.specs.Rewind.{floats_record}

-- records of floats by their marks and counts
abbrev pub floats_records : List (ℕ × ℕ) → List Expected
floats_records = map (λ r. floats_record r.0 r.1)

-- no count is above what a study may have
pub record Small (n : Lengths) : Type 0 where
  pub e : n.electric ≤ 28311552
  pub h : n.magnetic ≤ 28311552
  pub m : n.media ≤ 28311552
  pub pe : n.psi_e ≤ 28311552
  pub ph : n.psi_h ≤ 28311552
  pub t : n.tables ≤ 28311552
  pub p : n.poles ≤ 28311552
  pub a : n.aux ≤ 28311552
  pub i : n.ids ≤ 28311552
