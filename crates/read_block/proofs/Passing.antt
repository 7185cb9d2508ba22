-- A call on the record of a block lent to be read, and its answer, from their parts. Assumes nothing.
use Prim.Native.Nat.{ℕ}
use mathlib.Core.Path.{◌≡◌, refl, ap, ◌∙◌}
use mathlib.Core.Bool.{Bool, true, false, cond}
use mathlib.Core.List.{List, [], ◌∷◌}
use Rattle.std.proofs.Common.{Result, IsErr}
use Rattle.refusals.specs.declared.Refusal.{Refusal}
use Rattle.refusals.specs.Refusals.{code}
use Rattle.refusals.proofs.Numbers.{some}
use Rattle.grid.specs.declared.Record.{Record}
use Rattle.grid.specs.Fault.{bad_study, first}
use Rattle.grid.specs.Stores.{Outcome, outcome}
use Rattle.block.specs.Block.{block_fine, block_record}
use Rattle.calls.specs.Blocks.{readout, read_block, answered, answering}

-- ---- the call on a block lent to read
module _ {A : Type 0} (f : Record → Outcome A) (b : List ℕ) (kept : A) where
  pub unread : {B : Type 0} (x : Result B Refusal) {s : A} → IsErr x → code x ≡ first (block_fine b) bad_study 0 → s ≡ kept → readout (code x) s ≡ read_block f b kept
  unfolding read_block
  unread x p e a = rw a (go (block_fine b) e)
    where
      go : (t : Bool) → code x ≡ first t bad_study 0 → readout (code x) kept ≡ cond t (readout (f (block_record b)).refusal (f (block_record b)).rest) (readout bad_study kept)
      go true e = absurd (some x p e)
      go false e = rw e

  pub reads : {r q : Record} {n k : ℕ} {s : A} → block_fine b ≡ true → r ≡ block_record b → k ≡ n → outcome n q s ≡ f r → readout k s ≡ read_block f b kept
  unfolding read_block
  reads fine er ek eo = rw (fine, ek) (ap (λ (o : Outcome A). readout o.refusal o.rest) (eo ∙ ap f er))

-- ---- room for an answer, which holds another until the call is accepted
pub answering_of : {A : Type 0} {n : ℕ} {q : Record} {v : A} {o : Outcome A} (room : List A) {room' : List A} → outcome n q v ≡ o → room' ≡ answered v room → outcome n q room' ≡ answering o room
answering_of {A} {n} {q} room eo ea = ap (λ (x : List A). outcome n q x) ea ∙ ap (λ (x : Outcome A). answering x room) eo

pub answered_anew : {A : Type 0} (u v : A) (room : List A) {room' room'' : List A} → room' ≡ answered u room → room'' ≡ answered v room' → room'' ≡ answered v room
answered_anew {A} u v room e e' = e' ∙ ap (answered v) e ∙ go room
  where
    go : (l : List A) → answered v (answered u l) ≡ answered v l
    go [] = refl
    go (x ∷ l) = refl
