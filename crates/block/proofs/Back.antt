-- The block of a record without fault: it is found a record, and says the record again, without what means nothing. Assumes nothing.
use Prim.Native.Nat.{ℕ, ◌*◌, ◌<◌}
use native.Mathlib.Omega.{arith}
use mathlib.Core.Path.{◌≡◌, refl, ap, ◌∙◌}
use mathlib.Core.Bool.{Bool, true, false, cond}
use mathlib.Core.List.{List}
use borrow.Author.Tests.{eq-eqb, lt-ltb, ltb-true}
use lib.Dec.{ltb}
use lib.ListN.{length, get_or, replicate, length-append}
use lib.Seq.{drop_at}
use Rattle.codec.specs.Lists.{part, every}
use Rattle.codec.proofs.Row.{nums_enc}
use Rattle.dispersion.specs.declared.DispersiveMaterial.{DispersiveMaterial}
use Rattle.cells.specs.Cells.{joined}
use Rattle.cells.proofs.Blocks.{part_block}
use Rattle.grid.specs.declared.Record.{Record}
use Rattle.grid.specs.Canon.{canon}
use Rattle.grid.specs.Fault.{beyond, fault_of}
use Rattle.grid.proofs.Judging.{sound, all_true}
use Rattle.heads.specs.Numbers.{gh_widths, gh_length, gh_nums, gh_shaped, ml_length, ml_shaped}
use Rattle.heads.specs.Payloads.{head_bytes, material_bytes, head_of, count_of, entry_at, record_of}
use Rattle.block.specs.Block.{block_length, entry_bytes, block_of, entries, all_zero, entry_fine, block_fine, block_record}
use Rattle.block.specs.Inner.Held.{Held}
use Rattle.block.proofs.Turns.{bytes_long, block_parts}
use Rattle.block.proofs.Entry.{material_shaped}
use Rattle.block.proofs.Head.{head_fit, head_shaped}
use Rattle.block.proofs.Counted.{entry_is, record_back}

module _ (r : Record) (ok : fault_of r ≡ 0) (h : Held r) where
  abbrev b : List ℕ
  b = block_of r

  abbrev inside : ℕ → Bool
  inside i = ltb i r.material_count

  abbrev material : ℕ → DispersiveMaterial
  material i = get_or r.materials i beyond

  head_is : head_of b ≡ gh_nums r
  unfolding block_of
  head_is = nums_enc gh_widths (gh_nums r) (joined 16 (entry_bytes r)) (head_fit r ok h)

  count_is : count_of (head_of b) ≡ r.material_count
  unfolding gh_nums
  count_is = ap count_of head_is

  entries_are : entries b ≡ joined 16 (entry_bytes r)
  unfolding block_of
  entries_are = drop_at (head_bytes r) (joined 16 (entry_bytes r)) gh_length (block_parts r).0

  -- the bytes of an entry, where it stands in the block
  part_is : (i : ℕ) → i < 16 → part (entries b) (ml_length * i) ml_length ≡ cond (inside i) (material_bytes (material i)) (replicate ml_length 0)
  unfolding entry_bytes
  part_is i l =
      let place : ml_length * i ≡ i * ml_length = omega arith in
      ap (λ (k : ℕ). part (entries b) k ml_length) place
      ∙ ap (λ (m : List ℕ). part m (i * ml_length) ml_length) entries_are
      ∙ part_block 16 i ml_length (entry_bytes r) l (λ c _. bytes_long r c)

  -- the counted ones
  parts : (i : ℕ) → i < r.material_count → part (entries b) (ml_length * i) ml_length ≡ material_bytes (material i)
  parts i l =
      part_is i (omega (arith, l, (sound r ok).materials))
      ∙ ap (λ (t : Bool). cond t (material_bytes (material i)) (replicate ml_length 0)) (lt-ltb i r.material_count l)

  entry_good : (i : ℕ) → i < 16 → entry_fine b i ≡ true
  unfolding entry_fine every
  entry_good i l = ap (λ (n : ℕ). judged (ltb i n)) count_is ∙ go (inside i) refl
    where
      judged : Bool → Bool
      judged t = cond t (ml_shaped (entry_at (entries b) i)) (all_zero (part (entries b) (ml_length * i) ml_length))

      go : (t : Bool) → inside i ≡ t → judged t ≡ true
      go true e = ap ml_shaped (entry_is r ok h (entries b) parts i (ltb-true i r.material_count e)) ∙ material_shaped (material i) (h.each i l)
      go false e = ap all_zero (part_is i l ∙ ap (λ (t : Bool). cond t (material_bytes (material i)) (replicate ml_length 0)) e)

  long : length b ≡ block_length
  unfolding block_of
  long = length-append (head_bytes r) (joined 16 (entry_bytes r)) ∙ omega (arith, (block_parts r).0, (block_parts r).1)

  pub fine_block : block_fine (block_of r) ≡ true
  unfolding block_fine
  fine_block = rw (eq-eqb (length b) block_length long, ap gh_shaped head_is ∙ head_shaped r ok h, all_true (entry_fine b) 16 entry_good)

  pub record_block : block_record (block_of r) ≡ canon r
  unfolding block_record
  record_block = ap (λ (g : List ℕ). record_of g (entries b)) head_is ∙ record_back r ok h (entries b) parts
