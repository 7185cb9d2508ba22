-- Worlds and their studies: what a block says, before a call and after it. Assumes nothing.
use Prim.Native.Nat.{ℕ, zero, suc, ◌<◌}
use native.Mathlib.Omega.{arith}
use mathlib.Core.Path.{◌≡◌, refl, sym, ap, ◌∙◌}
use mathlib.Core.Bool.{Bool, true, false, cond}
use mathlib.Core.Option.{Option, none, some}
use mathlib.Core.List.{List, [], ◌∷◌}
use lib.Dec.{T, ltb}
use lib.ListN.{get_or, replicate}
use lib.Ieee.Fits.{and_l, and_r}
use borrow.Author.Tests.{ltb-true, ne_eqb}
use Rattle.codec.specs.Lists.{every}
use Rattle.codec.specs.Bytes.{bytes_fit}
use Rattle.codec.proofs.Lists.{every_append}
use Rattle.codec.proofs.Row.{enc_fit}
use Rattle.dispersion.specs.declared.DispersiveMaterial.{DispersiveMaterial}
use Rattle.cells.specs.Cells.{joined}
use Rattle.grid.specs.declared.Clock.{Clock}
use Rattle.grid.specs.declared.Record.{Record}
use Rattle.grid.specs.Canon.{canon}
use Rattle.grid.specs.Edited.{with_clock}
use Rattle.grid.specs.Fault.{beyond, fault_of}
use Rattle.grid.proofs.Canonical.{canon_twice}
use Rattle.heads.specs.Numbers.{gh_widths, gh_nums, ml_widths, ml_length, ml_nums}
use Rattle.heads.specs.Payloads.{head_bytes, material_bytes}
use Rattle.block.specs.Inner.Held.{held, Held}
use Rattle.block.specs.Block.{block_fine, block_record, entry_bytes, block_of, clock_put}
use Rattle.block.proofs.Turns.{block_long}
use Rattle.block.proofs.Back.{fine_block, record_block}
use Rattle.block.proofs.Clock.{clock_fine, clock_record}
use Rattle.block.proofs.Decoded.{block_held}
use Rattle.format.proofs.Same.{joined_fit}
use Rattle.calls.specs.Blocks.{block_after, clock_after}
use Rattle.study.specs.World.{World, Study, if_fine, study_of}
use Rattle.study.specs.Inner.Holding.{Holding}

pub byte_at : (l : List ℕ) → T (bytes_fit l) → (i : ℕ) → get_or l i 0 < 256
unfolding every
byte_at [] h i = omega arith
byte_at (x ∷ l) h zero = ltb-true x 256 (yes (ltb x 256) (and_l (ltb x 256) (every (λ b. ltb b 256) l) h))
  where
    yes : (t : Bool) → T t → t ≡ true
    yes true h = refl
    yes false h = absurd h
byte_at (x ∷ l) h (suc i) = byte_at l (and_r (ltb x 256) (every (λ b. ltb b 256) l) h) i

-- what a block says, memory can hold
pub under : (w : World) → block_fine w.block ≡ true → Holding (block_record w.block) w.kept
under w fine = record { held = block_held w.block (block_long w.block fine) (byte_at w.block w.bytes); fits = w.fits }

-- the study of a block that is a record's, and of one that is none
pub study_fine : (w : World) → block_fine w.block ≡ true → study_of w ≡ some (record { rec = canon (block_record w.block); kept = w.kept })
study_fine w e = ap (λ (t : Bool). if_fine t (record { rec = canon (block_record w.block); kept = w.kept })) e

pub study_none : (w : World) → block_fine w.block ≡ false → study_of w ≡ none
study_none w e = ap (λ (t : Bool). if_fine t (record { rec = canon (block_record w.block); kept = w.kept })) e

-- a block in which a record without fault was put says that record, without what means nothing
pub study_put : (v : World) (r : Record) → fault_of r ≡ 0 → Held r → v.block ≡ block_of r → study_of v ≡ some (record { rec = canon r; kept = v.kept })
study_put v r ok h e =
    study_fine v (ap block_fine e ∙ fine_block r ok h)
    ∙ ap {B = Option Study} (λ (q : Record). some (record { rec = q; kept = v.kept })) (ap canon (ap block_record e ∙ record_block r ok h) ∙ canon_twice r)

-- a block in which another clock was put says the record of before with that clock
pub study_clock : (w v : World) (q : Record) → block_fine w.block ≡ true → T (held q.clock.time) → q.clock.steps < 4294967296 →
    q ≡ with_clock (block_record w.block) q.clock → v.block ≡ clock_put q.clock w.block → study_of v ≡ some (record { rec = canon q; kept = v.kept })
study_clock w v q fine t s alone e =
    let long = block_long w.block fine in
    study_fine v (ap block_fine e ∙ clock_fine w.block q.clock long t s ∙ fine)
    ∙ ap {B = Option Study} (λ (x : Record). some (record { rec = canon x; kept = v.kept })) (ap block_record e ∙ clock_record w.block q.clock long t s ∙ sym alone)

pub clock_accepted : (c : Clock) (b : List ℕ) → clock_after 0 c b ≡ clock_put c b
unfolding clock_after
clock_accepted c b = refl

pub clock_refused : (n : ℕ) (c : Clock) (b : List ℕ) → clock_after (suc n) c b ≡ b
unfolding clock_after
clock_refused n c b = ap (λ (t : Bool). cond t (clock_put c b) b) (ne_eqb (suc n) 0 (λ k. omega (arith, k)))

pub after_accepted : (r : Record) (b : List ℕ) → block_after 0 r b ≡ block_of r
unfolding block_after
after_accepted r b = refl

pub after_refused : (n : ℕ) (r : Record) (b : List ℕ) → block_after (suc n) r b ≡ b
unfolding block_after
after_refused n r b = ap (λ (t : Bool). cond t (block_of r) b) (ne_eqb (suc n) 0 (λ k. omega (arith, k)))

-- a block's bytes are bytes
entry_fit : (counted : Bool) (m : DispersiveMaterial) → T (bytes_fit (cond counted (material_bytes m) (replicate ml_length 0)))
unfolding every
entry_fit true m = enc_fit ml_widths (ml_nums m)
entry_fit false m = tt

pub block_fit : (r : Record) → T (bytes_fit (block_of r))
unfolding block_of entry_bytes
block_fit r =
    every_append (λ b. ltb b 256) (head_bytes r) (joined 16 (entry_bytes r)) (enc_fit gh_widths (gh_nums r))
    (joined_fit 16 (entry_bytes r) (λ i. entry_fit (ltb i r.material_count) (get_or r.materials i beyond)))
