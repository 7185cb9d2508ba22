use Prim.Native.Nat.{ℕ}
use mathlib.Core.List.{List}
use mathlib.Core.Path.{◌≡◌, ap, ◌∙◌}
use native.Mathlib.Omega.{arith}
use lib.ListN.{length}
use Rattle.heads.specs.Numbers.{gh_of}
use Rattle.heads.specs.Payloads.{count_of, record_of}
use Rattle.heads.proofs.Listed.{same_materials}
use Rattle.block.specs.Block.{block_length, entries, block_record}
use Rattle.block.proofs.Turns.{block_long, steps_small}
use Rattle.block.proofs.get_record.Goals as goal

pub get_gh-n-requires : goal.get_gh-n-requires
get_gh-n-requires c = let h : length c.args.b.now ≡ block_length = block_long _ c.requires in omega arith

pub get_materials-materials-requires : goal.get_materials-materials-requires
get_materials-materials-requires c = (omega (arith, block_long _ c.requires, c.counted_of-count.ensures.0), c.counted_of-count.ensures.0)

pub gh_of-requires : goal.gh_of-requires
gh_of-requires c = rw c.get_gh-n.ensures (steps_small c.args.b.now (block_long _ c.requires) (λ i. (c.type_inv.b i).fits))

pub returns : goal.returns
unfolding block_record
returns c =
    let b = c.args.b.now in
    let n = c.get_gh-n.result in
    c.gh_of.ensures
    ∙ ap (gh_of n) (c.get_materials-materials.ensures ∙ same_materials (entries b) _ (count_of n) c.counted_of-count.ensures.1)
    ∙ ap (λ (g : List ℕ). record_of g (entries b)) c.get_gh-n.ensures
