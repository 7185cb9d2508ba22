use lib.ListN.{length}
use mathlib.Core.Path.{◌≡◌, refl}
use Rattle.materials.proofs.Building.{kept_four}
use Rattle.grid.specs.Canon.{canon_material}
use Rattle.dispersion.specs.Material.{blank_slot}
use Rattle.std.proofs.Common.{rules}
use Rattle.materials.proofs.kept_material.Goals as goal

pub returns : goal.returns
unfolding canon_material
returns c = let m = c.args.m in let h : length m.poles ≡ 4 = search rules in rw (c.kept_slot-a.ensures, c.kept_slot-b.ensures, c.kept_slot-c.ensures, c.kept_slot-d.ensures, kept_four m.pole_count blank_slot _ m.poles h) refl
