-- Whole payloads are as long as their widths say. Assumes nothing.
use mathlib.Core.Path.{◌≡◌, refl}
use lib.ListN.{length, length-append}
use Rattle.codec.specs.Bytes.{total}
use Rattle.dispersion.specs.declared.DispersiveMaterial.{DispersiveMaterial}
use Rattle.cells.specs.Cells.{joined}
use Rattle.grid.specs.declared.Record.{Record}
use Rattle.heads.specs.Numbers.{old_widths, old_length, gh_widths, gh_length, gh_nums, ml_widths, ml_length, ml_nums}
use Rattle.heads.proofs.Flat.{slot_long}

pub gh_long : (r : Record) → length (gh_nums r) ≡ 27
unfolding gh_nums
gh_long r = refl

pub ml_long : (m : DispersiveMaterial) → length (ml_nums m) ≡ 20
unfolding ml_nums joined
ml_long m = simp (length-append, slot_long) refl

pub old_total : total old_widths ≡ old_length
unfolding total
old_total = refl

pub gh_total : total gh_widths ≡ gh_length
unfolding total
gh_total = refl

pub ml_total : total ml_widths ≡ ml_length
unfolding total
ml_total = refl
