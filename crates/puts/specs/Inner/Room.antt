-- What the code that writes and reads stores needs of lengths, as inequalities that `omega` reads wherever a `requires` has them. Definitions only.
use Rattle.std.specs.Prelude.{◌≡◌, ℕ, ◌+◌, ◌*◌, ◌≤◌}
use Rattle.heads.specs.Numbers.{gh_length, ml_length}

-- counts of materials, of the nine stores' numbers, and of bytes: no count above what a study may have, and the bytes enough for eleven records, six bytes before each;
-- for each cell's one id there are six memories of either field
pub record Roomy (materials electric magnetic media psi_e psi_h tables poles aux ids bytes : ℕ) : Type 0 where
  pub list : materials ≤ 16
  pub e : electric ≤ 28311552
  pub h : magnetic ≤ 28311552
  pub m : media ≤ 28311552
  pub pe : psi_e ≤ 28311552
  pub ph : psi_h ≤ 28311552
  pub se : psi_e ≡ 6 * ids
  pub sh : psi_h ≡ 6 * ids
  pub t : tables ≤ 28311552
  pub p : poles ≤ 28311552
  pub a : aux ≤ 28311552
  pub i : ids ≤ 28311552
  pub all : 66 + gh_length + ml_length * materials + 4 * ids + 8 * media + 8 * electric + 8 * magnetic + 8 * psi_e + 8 * psi_h + 8 * tables + 8 * poles + 8 * aux ≤ bytes
