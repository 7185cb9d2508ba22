use mathlib.Core.Path.{sym, ap, subst, ◌∙◌}
use mathlib.Core.List.{List}
use Prim.Native.Nat.{ℕ, ◌≤◌}
use native.Mathlib.Omega.{arith}
use lib.ListN.{get_or}
use Rattle.heads.specs.Numbers.{gh_of}
use Rattle.judge.proofs.Judged.{steps_small}
use Rattle.saves.proofs.Taken.{gh_there, ml_there, record_there}
use Rattle.saves.proofs.gets.get_record.Goals as goal

pub head_at-g-requires : goal.head_at-g-requires
head_at-g-requires c = gh_there _ c.requires _ c.is_old-old.ensures

pub get_materials-materials-requires : goal.get_materials-materials-requires
get_materials-materials-requires c =
    let k = ml_there c.args.b.now c.requires _ c.is_old-old.ensures _ c.head_at-g.ensures in
    (omega (arith, k.0, c.entries_from-at.ensures.0), k.1)

pub gh_of-requires : goal.gh_of-requires
gh_of-requires c =
    let b = c.args.b.now in
    let which = c.is_old-old.ensures in
    subst (λ (g : List ℕ). get_or g 25 0 ≤ 4294967295) (sym c.head_at-g.ensures)
    (steps_small c.is_old-old.result b (gh_there b c.requires _ which) (λ i. (c.type_inv.b i).fits))

pub returns : goal.returns
returns c =
    let b = c.args.b.now in
    let g = c.head_at-g.result in
    c.gh_of.ensures
    ∙ ap (gh_of g) c.get_materials-materials.ensures
    ∙ record_there b _ g _ c.is_old-old.ensures c.head_at-g.ensures c.entries_from-at.ensures.0
