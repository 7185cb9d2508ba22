use Rattle.std.proofs.Common.{◌≡◌, ℕ, ◌<◌, get_or, length, drop}
use Rattle.dispersion.specs.Material.{vacuum_material}
use Rattle.heads.specs.Payloads.{entry_material}
use Rattle.reads.proofs.entries.get_materials.Given as goal

abbrev pub invariant-loop-i : goal.invariant-loop-i
invariant-loop-i l = (length l.materials ≡ 16) × ((j : ℕ) → j < 16 → get_or l.materials j vacuum_material ≡ entry_material l.i (drop l.at l.s) j)
