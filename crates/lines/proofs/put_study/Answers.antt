use native.Mathlib.Omega.{arith}
use mathlib.Core.Path.{ap}
use Rattle.lines.specs.declared.fields.Fields.{Fields}
use Rattle.lines.proofs.Written.{wrote_as}
use Rattle.lines.proofs.Study.{study_sound, study_lies, study_wrote, grid_told}
use Rattle.lines.proofs.put_study.Goals as goal

pub stores_from-from-requires : goal.stores_from-from-requires
stores_from-from-requires c = (study_sound _ (λ i. (c.type_inv.b i).fits) c.requires.0 _ c.requires.1).materials

pub fields_of-requires : goal.fields_of-requires
fields_of-requires c = (study_sound _ (λ i. (c.type_inv.b i).fits) c.requires.0 _ c.requires.1, c.stores_from-from.ensures.1)

pub put_head-requires : goal.put_head-requires
put_head-requires c = (study_sound _ (λ i. (c.type_inv.b i).fits) c.requires.0 _ c.requires.1, omega (arith, c.requires.2))

pub invariant_of-saved : goal.invariant_of-saved
invariant_of-saved c =
    let own = c.requires.1 in
    let k = study_sound _ (λ i. (c.type_inv.b i).fits) c.requires.0 _ own in
    let at = c.fields_of.ensures in
    record {
      lies = study_lies _ (λ i. (c.type_inv.b i).fits) c.requires.0 _ own _ c.stores_from-from.ensures.0 _ at;
      sizes = (k.xs, k.ys, k.zs, omega (arith, ap (λ (f : Fields). f.cells) at));
    }

pub returns : goal.returns
returns c =
    study_wrote _ (λ i. (c.type_inv.b i).fits) c.requires.0 _ c.requires.1 _ c.stores_from-from.ensures.0 _ c.fields_of.ensures c.put_head.ensures
    (wrote_as (grid_told _) c.put_grid.ensures)
