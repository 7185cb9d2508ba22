-- A call on the record of a block, from its parts. Assumes nothing.
use Prim.Native.Nat.{ℕ, zero, suc}
use native.Mathlib.Omega.{arith}
use mathlib.Core.Path.{◌≡◌, refl, sym, ap, ◌∙◌}
use mathlib.Core.Bool.{Bool, true, false, cond}
use mathlib.Core.List.{List}
use lib.ListN.{length}
use borrow.Author.Tests.{eq-eqb, ne_eqb}
use Rattle.std.proofs.Common.{Result, IsErr}
use Rattle.refusals.specs.declared.Refusal.{Refusal}
use Rattle.refusals.specs.Refusals.{code}
use Rattle.refusals.proofs.Numbers.{some}
use Rattle.root.specs.declared.Spacings.{Spacings}
use Rattle.dispersion.specs.declared.DispersiveMaterial.{DispersiveMaterial}
use Rattle.grid.specs.declared.Record.{Record}
use Rattle.grid.specs.Fault.{bad_study, first, fault_of}
use Rattle.grid.specs.Stores.{Stores, Outcome, outcome, settle, or_else, lent_fault, lengths_of, store_lengths, same_lengths, fault_lent, fault_with}
use Rattle.opening.specs.Opening.{open_record, open_stores, open_call}
use Rattle.opening.specs.Layer.{Layer}
use Rattle.materials.specs.Materials.{add_call, add_fault, Placed, Filled, filled, put_box_call}
use Rattle.materials.specs.declared.Put.{Put}
use Rattle.cells.specs.declared.IndexBox.{IndexBox}
use Rattle.cpml.specs.Absorber.{Absorbed, absorbed}
use Rattle.block.specs.Block.{block_length, block_fine, block_record}
use Rattle.format.specs.Rewind.{read_record, read_stores, bytes_fault, rewind_fault, rewind_call}
use Rattle.calls.proofs.Kept.{kept_old}
use Rattle.calls.specs.Blocks.{sent, block_after, passed, on_block, clock_after, clock_passed, clock_on_block, lent_block, open_on_block, rewind_on_block, answered, material_fault, material_of, add_bytes_fault, add_bytes_call, told, telling, axis_bits, named, naming}

-- ---- the call
module _ {A : Type 0} (f : Record → Outcome A) (b : List ℕ) (kept : A) where
  -- the block is no record
  pub ill : {B : Type 0} (x : Result B Refusal) {s : A} → IsErr x → code x ≡ first (block_fine b) bad_study 0 → s ≡ kept → sent (code x) b s ≡ on_block f b kept
  unfolding on_block
  ill x p e a = rw a (go (block_fine b) e)
    where
      go : (t : Bool) → code x ≡ first t bad_study 0 → sent (code x) b kept ≡ cond t (passed (f (block_record b)) b) (sent bad_study b kept)
      go true e = absurd (some x p e)
      go false e = rw e

  module _ {r : Record} (own : r ≡ block_record b) (fine : block_fine b ≡ true) where
    -- the call is refused
    pub stays : {B : Type 0} (x : Result B Refusal) {q : Record} {n : ℕ} {s : A} → IsErr x → code x ≡ n → outcome n q s ≡ f r → sent (code x) b s ≡ on_block f b kept
    unfolding on_block
    stays x {q} {n} {s} p en eo =
        rw (fine, en) (ap (λ (l : List ℕ). sent n l s) (kept_old x q b p ∙ rw en) ∙ ap (λ (o : Outcome A). passed o b) (eo ∙ ap f own))

    -- the block is written where the call was accepted
    pub well : {b' : List ℕ} {q : Record} {n k : ℕ} {s : A} → k ≡ n → outcome n q s ≡ f r → b' ≡ block_after n q b → sent k b' s ≡ on_block f b kept
    unfolding on_block
    well {b'} {q} {n} {k} {s} en eo eb =
        rw (fine, en) (ap (λ (x : List ℕ). sent n x s) eb ∙ ap (λ (o : Outcome A). passed o b) (eo ∙ ap f own))

  pub clock_ill : {B : Type 0} (x : Result B Refusal) {s : A} → IsErr x → code x ≡ first (block_fine b) bad_study 0 → s ≡ kept → sent (code x) b s ≡ clock_on_block f b kept
  unfolding clock_on_block
  clock_ill x p e a = rw a (go (block_fine b) e)
    where
      go : (t : Bool) → code x ≡ first t bad_study 0 → sent (code x) b kept ≡ cond t (clock_passed (f (block_record b)) b) (sent bad_study b kept)
      go true e = absurd (some x p e)
      go false e = rw e

  pub clock_well : {r : Record} → r ≡ block_record b → block_fine b ≡ true → {b' : List ℕ} {q : Record} {n k : ℕ} {s : A} → k ≡ n → outcome n q s ≡ f r → b' ≡ clock_after n q.clock b → sent k b' s ≡ clock_on_block f b kept
  unfolding clock_on_block
  clock_well own fine {b'} {q} {n} {k} {s} en eo eb =
      rw (fine, en) (ap (λ (x : List ℕ). sent n x s) eb ∙ ap (λ (o : Outcome A). clock_passed o b) (eo ∙ ap f own))

-- ---- a material added whose bytes are not at fault: adding it finds the record's own fault
or_twice : (n m : ℕ) → or_else n (or_else n m) ≡ or_else n m
or_twice zero m = refl
or_twice (suc n) m = refl

pub add_well : (m : List ℕ) (r : Record) {d : DispersiveMaterial} {o : Outcome ℕ} → 0 ≡ material_fault m → d ≡ material_of m → o ≡ add_call r d → o ≡ add_bytes_call m r
unfolding add_bytes_call add_bytes_fault add_call add_fault
add_well m r em ed e = e ∙ ap (add_call r) ed ∙ sym (rw (sym em, or_twice))

-- ---- opening and rewind: a block of another length, where f comes before the stores' lengths; a block of the right one, where f is the whole fault
left_alone : {A : Type 0} (n : ℕ) (r : Record) (s : A) (b : List ℕ) → sent (suc n) b s ≡ passed (outcome (suc n) r s) b
unfolding block_after
left_alone n r s b = rw (ne_eqb (suc n) 0 (λ z. let w : ⊥ = omega arith in w))

lent_ill : {A : Type 0} (f : ℕ) (fits : Bool) (r r' : Record) (s s' : A) (b : List ℕ) {n : ℕ} → (length b ≡ block_length → ⊥) → n ≡ lent_fault f false
    → sent n b s ≡ passed (settle (lent_block (lent_fault f fits) (length b)) r s r' s') b
unfolding lent_block
lent_ill f fits r r' s s' b h e = rw (ne_eqb (length b) block_length h, e) (go f fits)
  where
    go : (f : ℕ) (fits : Bool) → sent (lent_fault f false) b s ≡ passed (settle (or_else (lent_fault f fits) 4) r s r' s') b
    go zero true = left_alone 3 r s b
    go zero false = left_alone 3 r s b
    go (suc f) fits = left_alone f r s b

-- the standing record goes into no block
lent_well : {A : Type 0} (f : ℕ) (standing r r' : Record) (s s' : A) (b : List ℕ) {b' : List ℕ} {q : Record} {n k : ℕ} {t : A} → length b ≡ block_length → k ≡ n
    → outcome n q t ≡ settle f standing s r' s' → b' ≡ block_after n q b → sent k b' t ≡ passed (settle (lent_block f (length b)) r s r' s') b
unfolding lent_block
lent_well {A} f standing r r' s s' b {b'} {q} {n} {k} {t} h en eo eb =
    ap (λ (x : ℕ). sent x b' t) en ∙ ap (λ (x : List ℕ). sent n x t) eb ∙ ap (λ (o : Outcome A). passed o b) eo ∙ rw (eq-eqb (length b) block_length h) (go f)
  where
    go : (f : ℕ) → passed (settle f standing s r' s') b ≡ passed (settle (or_else f 0) r s r' s') b
    go zero = refl
    go (suc n) = sym (left_alone n standing s b) ∙ left_alone n r s b

module _ (nx ny nz slots : ℕ) (spacings : Spacings) (constants : ℕ) (b : List ℕ) (s : Stores) where
  pub open_ill : {n : ℕ} → (length b ≡ block_length → ⊥) → n ≡ lent_fault (fault_of (open_record nx ny nz slots spacings constants)) false → sent n b s ≡ open_on_block nx ny nz slots spacings constants b s
  unfolding open_on_block fault_lent
  open_ill h en =
      let r = open_record nx ny nz slots spacings constants in
      lent_ill (fault_of r) (same_lengths (lengths_of s) (store_lengths r)) r r s (open_stores r) b h en

  pub open_well : (standing : Record) {b' : List ℕ} {q : Record} {n k : ℕ} {s' : Stores} → length b ≡ block_length → k ≡ n
      → outcome n q s' ≡ open_call standing nx ny nz slots spacings constants s → b' ≡ block_after n q b → sent k b' s' ≡ open_on_block nx ny nz slots spacings constants b s
  unfolding open_on_block open_call
  open_well standing h en eo eb =
      let r = open_record nx ny nz slots spacings constants in
      lent_well (fault_with r (lengths_of s)) standing r r s (open_stores r) b h en eo eb

module _ (save b : List ℕ) (s : Stores) where
  pub rewind_ill : {n : ℕ} → (length b ≡ block_length → ⊥) → n ≡ lent_fault (bytes_fault save) false → sent n b s ≡ rewind_on_block save b s
  unfolding rewind_on_block rewind_fault
  rewind_ill h en =
      let r = read_record save in
      lent_ill (bytes_fault save) (same_lengths (lengths_of s) (store_lengths r)) r r s (read_stores save) b h en

  pub rewind_well : (standing : Record) {b' : List ℕ} {q : Record} {n k : ℕ} {s' : Stores} → length b ≡ block_length → k ≡ n
      → outcome n q s' ≡ rewind_call standing s save → b' ≡ block_after n q b → sent k b' s' ≡ rewind_on_block save b s
  unfolding rewind_on_block rewind_call
  rewind_well standing h en eo eb =
      let r = read_record save in
      lent_well (rewind_fault save (lengths_of s)) standing r r s (read_stores save) b h en eo eb

-- ---- the layer, its axes named
pub naming_of : {n k : ℕ} {q : Record} {axes : List Bool} {s : Layer} {o : Outcome Absorbed} (room : List ℕ) {room' : List ℕ} → outcome n q (absorbed axes s) ≡ o → k ≡ axis_bits axes → room' ≡ answered k room
    → outcome n q (named room' s) ≡ naming o room
naming_of {n} {k} {q} {axes} {s} {o} room eo ek ea =
    ap (λ (x : List ℕ). outcome n q (named x s)) (ea ∙ ap (λ (x : ℕ). answered x room) ek) ∙ ap (λ (x : Outcome Absorbed). naming x room) eo

-- ---- a box, its cells counted
pub telling_of : {n k : ℕ} {q : Record} {s' : Placed} (r : Record) (box : IndexBox) {what asked : Put} (s : Placed) (room : List ℕ) {room' : List ℕ} → outcome n q (filled s' k) ≡ put_box_call r box what s → what ≡ asked → room' ≡ answered k room
    → outcome n q (told room' s') ≡ telling (put_box_call r box asked s) room
telling_of {n} {k} {q} {s'} r box s room eo ew ea =
    ap (λ (x : List ℕ). outcome n q (told x s')) ea ∙ ap (λ (o : Outcome Filled). telling o room) (eo ∙ ap (λ (w : Put). put_box_call r box w s) ew)
