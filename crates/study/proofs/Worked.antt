-- A run of the C functions that pins what the claim leaves open: two byte-equal saves, a branch that is left, a second opening of another size, a rewind across it into
-- memory of the old size, a second rewind, to a save of the branch that was left, refused calls of every kind between. What stands of it is computed: after the first rewind
-- the LATEST copy with those bytes, which the reading between the two saves is in and the second save itself is not; after the second one the copy of the branch, step included. Faults are computed, bytes are not: what is asked of them are the laws of the format. Assumes nothing.
use Prim.Native.Nat.{ℕ, suc}
use native.Mathlib.Omega.{arith}
use mathlib.Core.Path.{◌≡◌, refl, sym, ap, ◌∙◌}
use mathlib.Core.Bool.{Bool, true, false}
use mathlib.Core.Option.{Option, some}
use mathlib.Core.Logic.{inl, inr}
use mathlib.Core.List.{List, [], ◌∷◌, ◌++◌}
use lib.Dec.{T, ltb}
use lib.ListN.{length, replicate, length-replicate}
use lib.Ieee.{Float, binary64, of_bits}
use lib.Ieee.Bits.{of_bits-fits}
use Rattle.codec.specs.Lists.{put, every}
use Rattle.codec.specs.Bytes.{bytes_fit}
use Rattle.codec.proofs.Lists.{every_append}
use Rattle.root.specs.Rounded.{zero_f, one_f}
use Rattle.root.specs.declared.Spacings.{Spacings}
use Rattle.grid.specs.declared.Record.{Record}
use Rattle.grid.specs.declared.stores.Lengths.{Lengths}
use Rattle.grid.specs.Edited.{with_walls}
use Rattle.grid.specs.Canon.{keep_first, canon_material, canon_region, canon}
use Rattle.grid.specs.Fault.{side_fits, sides_fit, size_fits, spacings_fit, counts_fit, all_below, material_steps, material_fits, poles_fit, layer_fits, region_fits, study_fits, fault_of}
use Rattle.grid.specs.Vacuum.{eps_of, mu_of, light_of}
use Rattle.grid.specs.Stores.{Stores, Outcome, outcome, lengths_of, store_lengths, same_lengths, fault_lent, fault_with}
use Rattle.opening.specs.Opening.{open_record, open_media, inactive, open_tables, open_stores}
use Rattle.boundary.specs.Walls.{set_periodic_call}
use Rattle.fields.specs.Fields.{energy_fault, energy_of, energy_call, plane_fault, plane_call}
use Rattle.step.specs.Step.{fresh_ids, step_fault, stepped, ticked, step_call}
use Rattle.block.specs.Inner.Held.{held, Held}
use Rattle.block.specs.Block.{block_length, block_fine, block_record, block_of}
use Rattle.block.proofs.Turns.{block_long}
use Rattle.block.proofs.Back.{fine_block, record_block}
use Rattle.format.specs.InMemory.{StoresHeld}
use Rattle.format.specs.Save.{save_length, save_bytes, save_fault}
use Rattle.format.specs.Rewind.{is_old, rewind_fault}
use Rattle.format.proofs.Cut.{save_trailing}
use Rattle.format.proofs.Same.{save_fit, save_names}
use Rattle.calls.specs.Blocks.{lent_block}
use Rattle.study.specs.History.{same_bytes, opening, doing, saving, rewinding, turned, given, Reply, refused, accepted, does, Made, Honest, RunA, begins, makes, RunB, idle, follows, latest, standing, calls, since, Agreed}
use Rattle.study.specs.World.{World, Unchanged, Study, study_of, lent_in, Opening, SaidOpening, Act, SaidAct, set_periodic, step, total_energy, plane_reading, Asked, Answer, nothing, numbers, floats, Room, puts}
use Rattle.study.specs.Calls.{form, saves_in, loads_from, reply_of, weight_of, engine}
use Rattle.study.proofs.Standing.{same_true, same_refl}
use Rattle.study.proofs.Lengths.{step_long}
use Rattle.study.proofs.Fits.{all_replicate, stepped_fit}
use Rattle.study.proofs.Remains.{open_holds, held_walls, held_tick}
use Rattle.study.proofs.Blocks.{study_put, block_fit}
use Rattle.study.proofs.Saved.{Saved, savable, restored, reread}
use Rattle.study.proofs.Made.{LeftAs, honest_on, honest_none, roomy}
use Rattle.study.proofs.Proved.{demand_1, demand_2, demand_3}

-- ---- a world whose block holds the record r
record Says (w : World) (r : Record) : Type 0 where
  is : w.block ≡ block_of r
  ok : fault_of r ≡ 0
  held : Held r
  canonical : canon r ≡ r

module _ (w : World) (r : Record) (k : Says w r) where
  fine : block_fine w.block ≡ true
  fine = ap block_fine k.is ∙ fine_block r k.ok k.held

  said_there : block_record w.block ≡ r
  said_there = ap block_record k.is ∙ record_block r k.ok k.held ∙ k.canonical

  at : study_of w ≡ some (record { rec = r; kept = w.kept })
  at = study_put w r k.ok k.held k.is ∙ ap {B = Option Study} (λ (q : Record). some (record { rec = q; kept = w.kept })) k.canonical

  long : length w.block ≡ block_length
  long = block_long w.block fine

abbrev made : Asked → World → Room → Reply Answer → World → Room → Made engine
made c w x y v z = record { call = c; handed = w; lent = x; reply = y; left = v; back = z }

-- ---- a call of each kind made there
module _ (w : World) (r : Record) (k : Says w r) where
  acts : (c : Act) → SaidAct c → (x : Room) → (form c).lends x → (v : World) (o : Outcome (form c).Rest) → o ≡ (form c).call r w.kept
      → LeftAs o.refusal o.study w v → v.kept ≡ (form c).stored o.rest w.kept
      → Honest engine (made (doing c) w x (reply_of o.refusal ((form c).answer o.rest) ((form c).answer o.rest)) v (puts ((form c).answer o.rest) x))
  acts c said x lends v o e l q = honest_on w v x _ c said lends (fine w r k) o (e ∙ ap (λ (p : Record). (form c).call p w.kept) (sym (said_there w r k))) l q refl

  abbrev room : ℕ → List ℕ
  room n = replicate n 0

  saves : (n : ℕ) → save_fault r (lengths_of w.kept) n ≡ 0
      → Honest engine (made (saving n) w (numbers (room n)) (accepted (numbers (save_bytes r w.kept))) w (numbers (put (room n) 0 (save_bytes r w.kept))))
  saves n e = record {
    fits = record { said = tt; lends = length-replicate {A = ℕ} n 0; measured = tt };
    gives = (record { rec = r; kept = w.kept }, at w r k, ap (saves_in n) (at w r k) ∙ rw e);
    told = refl;
  }

  saves_not : (n m : ℕ) → save_fault r (lengths_of w.kept) n ≡ suc m → Honest engine (made (saving n) w (numbers (room n)) (refused (suc m) (numbers [])) w (puts (numbers []) (numbers (room n))))
  saves_not n m e = record {
    fits = record { said = tt; lends = length-replicate {A = ℕ} n 0; measured = tt };
    gives = (ap (saves_in n) (at w r k) ∙ rw e, (refl, refl));
    told = refl;
  }

  -- its save taken up into the memory of another world
  resumed : (n : ℕ) → save_fault r (lengths_of w.kept) n ≡ 0 → (u : World) → lengths_of u.kept ≡ lengths_of w.kept → length u.block ≡ block_length
      → Honest engine (made (rewinding (save_bytes r w.kept) (lent_in u)) u nothing (accepted nothing) w nothing)
  resumed n e u same whole =
      let s : Saved r w.kept n = record { held = k.held; fits = w.fits; fine = e } in
      let back = restored r w.kept n s in
      let f : rewind_fault (save_bytes r w.kept) (lengths_of u.kept) ≡ 0 = ap (rewind_fault (save_bytes r w.kept)) same ∙ reread r w.kept n s in
      record {
        fits = record { said = save_fit r w.kept; lends = refl; measured = refl };
        gives = (
          record { rec = r; kept = w.kept },
          at w r k,
          rw (roomy (rewind_fault (save_bytes r w.kept) (lengths_of u.kept)) (length u.block) f whole, back.0, back.1, k.canonical),
        );
        told = refl;
      }

rewinds_not : (w : World) (b : List ℕ) (n : ℕ) → T (bytes_fit b) → rewind_fault b (lengths_of w.kept) ≡ suc n
    → Honest engine (made (rewinding b (lent_in w)) w nothing (refused (suc n) nothing) w nothing)
unfolding lent_block
rewinds_not w b n t e = record { fits = record { said = t; lends = refl; measured = refl }; gives = (rw e, (refl, refl)); told = refl }

opens_not : (w : World) (o : Opening) → SaidOpening o → (n : ℕ) → fault_with (open_record o.nx o.ny o.nz o.slots o.spacings o.constants) (lengths_of w.kept) ≡ suc n
    → Honest engine (made (opening o (lent_in w)) w nothing (refused (suc n) nothing) w nothing)
unfolding lent_block
opens_not w o t n e = record { fits = record { said = t; lends = refl; measured = refl }; gives = (rw e, (refl, refl)); told = refl }

opens : (w v : World) (o : Opening) → SaidOpening o → (r : Record) → r ≡ open_record o.nx o.ny o.nz o.slots o.spacings o.constants → Says v r → v.kept ≡ open_stores r
    → fault_with r (lengths_of w.kept) ≡ 0 → length w.block ≡ block_length
    → Honest engine (made (opening o (lent_in w)) w nothing (accepted nothing) v nothing)
opens w v o t r i k s e whole = record {
  fits = record { said = t; lends = refl; measured = refl };
  gives = (
    record { rec = r; kept = open_stores r },
    at v r k ∙ ap {B = Option Study} (λ (z : Stores). some (record { rec = r; kept = z })) s,
    rw (← i, roomy (fault_with r (lengths_of w.kept)) (length w.block) e whole),
  );
  told = refl;
}

-- ---- the studies: one cell, opened; after a step; made periodic on x. Two cells, opened
abbrev pub unit : Spacings
unit = record { dx = one_f; dy = one_f; dz = one_f; dt = one_f }

abbrev pub cube : ℕ → Opening
cube nz = record { nx = 1; ny = 1; nz = nz; slots = 0; spacings = unit; constants = 0 }

one_fits : T (held one_f)
one_fits = of_bits-fits binary64 0x3FF0000000000000

pub said : (nz : ℕ) → SaidOpening (cube nz)
said nz = all_replicate held 4 one_f one_fits

abbrev pub r₁ : Record
r₁ = open_record 1 1 1 0 unit 0

abbrev pub s₁ : Stores
s₁ = open_stores r₁

abbrev r₂ : Record
r₂ = ticked r₁

abbrev s₂ : Stores
s₂ = stepped (eps_of r₁) (mu_of r₁) (light_of r₁) r₁ one_f s₁

abbrev r₃ : Record
r₃ = with_walls r₂ (true ∷ false ∷ false ∷ []) r₂.active false

abbrev r₄ : Record
r₄ = open_record 1 1 2 0 unit 0

-- a step more
abbrev r₅ : Record
r₅ = ticked r₂

abbrev s₅ : Stores
s₅ = stepped (eps_of r₂) (mu_of r₂) (light_of r₂) r₂ one_f s₂

abbrev l₁ : Lengths
l₁ = lengths_of s₁

faultless : (fault_of r₁ ≡ 0) × (fault_of r₂ ≡ 0) × (fault_of r₃ ≡ 0) × (fault_of r₄ ≡ 0) × (fault_of r₅ ≡ 0)
unfolding fault_of size_fits sides_fit side_fits spacings_fit study_fits counts_fit poles_fit material_fits material_steps all_below layer_fits region_fits of_bits
faultless = (refl, refl, refl, refl, refl)

canonical : (canon r₁ ≡ r₁) × (canon r₂ ≡ r₂) × (canon r₃ ≡ r₃) × (canon r₄ ≡ r₄) × (canon r₅ ≡ r₅)
unfolding canon keep_first canon_material canon_region
canonical = (refl, refl, refl, refl, refl)

h₁ : Held r₁
h₁ = (open_holds 1 1 1 0 unit 0 (said 1)).held

h₂ : Held r₂
h₂ = held_tick r₁ h₁ (omega arith)

-- ---- worlds: memory in which anything stands, two of them; then what the calls leave
abbrev fresh : (s : Stores) → StoresHeld s → World
fresh s h = record { block = replicate block_length 7; kept = s; bytes = all_replicate (λ b. ltb b 256) block_length 7 tt; fits = h }

abbrev pub w₀ : World
w₀ = fresh s₁ (open_holds 1 1 1 0 unit 0 (said 1)).fits

abbrev w₅ : World
w₅ = fresh (open_stores r₄) (open_holds 1 1 2 0 unit 0 (said 2)).fits

-- a block of no length: no record
abbrev w₆ : World
w₆ = record { block = replicate 0 7; kept = s₁; bytes = all_replicate (λ b. ltb b 256) 0 7 tt; fits = w₀.fits }

abbrev pub w₁ : World
w₁ = record { block = block_of r₁; kept = s₁; bytes = block_fit r₁; fits = w₀.fits }

abbrev w₂ : World
w₂ = record { block = block_of r₂; kept = s₂; bytes = block_fit r₂; fits = stepped_fit (eps_of r₁) (mu_of r₁) (light_of r₁) r₁ one_f s₁ w₀.fits }

abbrev w₃ : World
w₃ = record { block = block_of r₃; kept = s₂; bytes = block_fit r₃; fits = w₂.fits }

abbrev w₄ : World
w₄ = record { block = block_of r₄; kept = open_stores r₄; bytes = block_fit r₄; fits = w₅.fits }

abbrev w₇ : World
w₇ = record { block = block_of r₅; kept = s₅; bytes = block_fit r₅; fits = stepped_fit (eps_of r₂) (mu_of r₂) (light_of r₂) r₂ one_f s₂ w₂.fits }

k₁ : Says w₁ r₁
k₁ = record { is = refl; ok = faultless.0; held = h₁; canonical = canonical.0 }

k₂ : Says w₂ r₂
k₂ = record { is = refl; ok = faultless.1; held = h₂; canonical = canonical.1 }

k₃ : Says w₃ r₃
k₃ = record { is = refl; ok = faultless.2; held = held_walls r₂ h₂ (true ∷ false ∷ false ∷ []) r₂.active false refl refl; canonical = canonical.2 }

k₄ : Says w₄ r₄
k₄ = record { is = refl; ok = faultless.3; held = (open_holds 1 1 2 0 unit 0 (said 2)).held; canonical = canonical.3 }

k₅ : Says w₇ r₅
k₅ = record { is = refl; ok = faultless.4; held = held_tick r₂ h₂ (omega arith); canonical = canonical.4 }

-- ---- what the definitions come to
judged : (fault_with r₁ l₁ ≡ 0) × (fault_with r₄ l₁ ≡ 4) × (fault_with r₄ (lengths_of (open_stores r₄)) ≡ 0)
unfolding fault_lent fault_of size_fits sides_fit side_fits spacings_fit study_fits counts_fit poles_fit material_fits material_steps all_below layer_fits region_fits store_lengths open_stores of_bits same_lengths open_media open_tables inactive
judged = (refl, refl, refl)

no_plane : outcome 17 r₁ zero_f ≡ plane_call r₁ 1 s₁.electric s₁.magnetic
unfolding fault_lent fault_of size_fits sides_fit side_fits spacings_fit study_fits counts_fit poles_fit material_fits material_steps all_below layer_fits region_fits store_lengths open_stores of_bits plane_call plane_fault
no_plane = refl

abbrev joules : Float
joules = energy_of (eps_of r₁) (mu_of r₁) r₁ s₁.electric s₁.magnetic s₁.media

read : outcome 0 r₁ joules ≡ energy_call (eps_of r₁) (mu_of r₁) r₁ s₁.electric s₁.magnetic s₁.media
unfolding fault_lent fault_of size_fits sides_fit side_fits spacings_fit study_fits counts_fit poles_fit material_fits material_steps all_below layer_fits region_fits store_lengths open_stores of_bits open_media energy_call energy_fault
read = refl

stepping : (outcome 0 r₂ s₂ ≡ step_call (eps_of r₁) (mu_of r₁) (light_of r₁) r₁ one_f s₁) × (step_fault r₁ l₁ s₁.ids 1 ≡ 0)
unfolding fault_lent fault_of size_fits sides_fit side_fits spacings_fit study_fits counts_fit poles_fit material_fits material_steps all_below layer_fits region_fits store_lengths open_stores of_bits step_call step_fault fresh_ids same_lengths open_media open_tables inactive
stepping = (refl, refl)

as_long : lengths_of s₂ ≡ l₁
as_long = step_long (eps_of r₁) (mu_of r₁) (light_of r₁) r₁ one_f s₁ 1 stepping.1

-- the step from there: its faults are those of the first, since it left lengths and ids as they were
same_ids : s₂.ids ≡ s₁.ids
unfolding stepped
same_ids = refl

step_judged : step_fault r₂ l₁ s₁.ids 1 ≡ 0
unfolding fault_lent fault_of size_fits sides_fit side_fits spacings_fit study_fits counts_fit poles_fit material_fits material_steps all_below layer_fits region_fits store_lengths open_stores of_bits step_fault fresh_ids same_lengths open_media open_tables inactive
step_judged = refl

stepping_on : outcome 0 r₅ s₅ ≡ step_call (eps_of r₂) (mu_of r₂) (light_of r₂) r₂ one_f s₂
unfolding step_call
stepping_on = rw (as_long, same_ids, step_judged)

periodic_x : outcome 0 r₃ tt ≡ set_periodic_call r₂ (true ∷ false ∷ false ∷ [])
unfolding fault_of size_fits sides_fit side_fits spacings_fit study_fits counts_fit poles_fit material_fits material_steps all_below layer_fits region_fits of_bits set_periodic_call
periodic_x = refl

-- 1,389 bytes are enough for either study, and 1,388 are not
room_for : (save_fault r₁ l₁ 1389 ≡ 0) × (save_fault r₁ l₁ 2000 ≡ 0) × (save_fault r₂ l₁ 1389 ≡ 0) × (save_fault r₂ l₁ 1388 ≡ 12)
unfolding save_fault save_length fault_lent fault_of size_fits sides_fit side_fits spacings_fit study_fits counts_fit poles_fit material_fits material_steps all_below layer_fits region_fits store_lengths open_stores of_bits same_lengths open_media open_tables inactive
room_for = (refl, refl, refl, refl)

fits₂ : (n k : ℕ) → save_fault r₂ l₁ n ≡ k → save_fault r₂ (lengths_of s₂) n ≡ k
fits₂ n k e = ap (λ (l : Lengths). save_fault r₂ l n) as_long ∙ e

none_there : block_fine w₆.block ≡ false
unfolding block_fine
none_there = refl

-- what the saves wrote, and one byte more
abbrev b₁ : List ℕ
b₁ = save_bytes r₁ s₁

abbrev b₂ : List ℕ
b₂ = save_bytes r₂ s₂

abbrev b₊ : List ℕ
b₊ = b₁ ++ (7 ∷ [])

saved₁ : Saved r₁ s₁ 1389
saved₁ = record { held = h₁; fits = w₁.fits; fine = room_for.0 }

saved₂ : Saved r₂ s₂ 1389
saved₂ = record { held = h₂; fits = w₂.fits; fine = fits₂ 1389 0 room_for.2 }

one_more : (T (bytes_fit b₊)) × (rewind_fault b₊ (lengths_of s₂) ≡ 16)
unfolding every
one_more = (
  every_append (λ x. ltb x 256) b₁ (7 ∷ []) (save_fit r₁ s₁) tt,
  save_trailing r₁ s₁ (savable r₁ s₁ 1389 saved₁) (lengths_of s₂) 7 [],
)

-- ---- the run
abbrev bare : ℕ → Room
bare n = numbers (replicate n 0)

abbrev e₁ : Made engine
e₁ = made (opening (cube 1) (lent_in w₀)) w₀ nothing (accepted nothing) w₁ nothing

abbrev e₂ : Made engine
e₂ = made (saving 1389) w₁ (bare 1389) (accepted (numbers b₁)) w₁ (puts (numbers b₁) (bare 1389))

abbrev e₃ : Made engine
e₃ = made (doing (plane_reading 1 1)) w₁ (floats (one_f ∷ [])) (refused 17 (floats (zero_f ∷ []))) w₁ (puts (floats (zero_f ∷ [])) (floats (one_f ∷ [])))

abbrev e₄ : Made engine
e₄ = made (doing (total_energy 1)) w₁ (floats (one_f ∷ [])) (accepted (floats (joules ∷ []))) w₁ (puts (floats (joules ∷ [])) (floats (one_f ∷ [])))

abbrev e₅ : Made engine
e₅ = made (saving 2000) w₁ (bare 2000) (accepted (numbers b₁)) w₁ (puts (numbers b₁) (bare 2000))

abbrev e₆ : Made engine
e₆ = made (doing (step one_f)) w₁ nothing (accepted nothing) w₂ nothing

abbrev e₇ : Made engine
e₇ = made (saving 1389) w₂ (bare 1389) (accepted (numbers b₂)) w₂ (puts (numbers b₂) (bare 1389))

abbrev e₈ : Made engine
e₈ = made (saving 1388) w₂ (bare 1388) (refused 12 (numbers [])) w₂ (puts (numbers []) (bare 1388))

abbrev e₉ : Made engine
e₉ = made (doing (set_periodic true false false)) w₂ nothing (accepted nothing) w₃ nothing

abbrev e₁₀ : Made engine
e₁₀ = made (rewinding b₊ (lent_in w₃)) w₃ nothing (refused 16 nothing) w₃ nothing

abbrev e₁₁ : Made engine
e₁₁ = made (doing (step one_f)) w₆ nothing (refused 3 nothing) w₆ nothing

abbrev e₁₂ : Made engine
e₁₂ = made (opening (cube 2) (lent_in w₁)) w₁ nothing (refused 4 nothing) w₁ nothing

abbrev e₁₃ : Made engine
e₁₃ = made (opening (cube 2) (lent_in w₅)) w₅ nothing (accepted nothing) w₄ nothing

abbrev e₁₄ : Made engine
e₁₄ = made (rewinding b₁ (lent_in w₃)) w₃ nothing (accepted nothing) w₁ nothing

abbrev e₁₅ : Made engine
e₁₅ = made (saving 1389) w₁ (bare 1389) (accepted (numbers b₁)) w₁ (puts (numbers b₁) (bare 1389))

-- back to the branch that was left, and on from there
abbrev e₁₆ : Made engine
e₁₆ = made (rewinding b₂ (lent_in w₁)) w₁ nothing (accepted nothing) w₂ nothing

abbrev e₁₇ : Made engine
e₁₇ = made (doing (step one_f)) w₂ nothing (accepted nothing) w₇ nothing

-- up to the second opening, which joins what stands
abbrev run₁₃ : List (Made engine)
run₁₃ = e₁₃ ∷ e₁₂ ∷ e₁₁ ∷ e₁₀ ∷ e₉ ∷ e₈ ∷ e₇ ∷ e₆ ∷ e₅ ∷ e₄ ∷ e₃ ∷ e₂ ∷ e₁ ∷ []

abbrev run₁₅ : List (Made engine)
run₁₅ = e₁₅ ∷ e₁₄ ∷ run₁₃

abbrev pub run₁₇ : List (Made engine)
run₁₇ = e₁₇ ∷ e₁₆ ∷ run₁₅

pub opened : Honest engine e₁
opened = opens w₀ w₁ (cube 1) (said 1) r₁ refl k₁ refl judged.0 (length-replicate {A = ℕ} block_length 7)

pub not_opened : Honest engine e₁₂
not_opened = opens_not w₁ (cube 2) (said 2) 3 judged.1

g₂ : Honest engine e₂
g₂ = saves w₁ r₁ k₁ 1389 room_for.0

g₄ : Honest engine e₄
g₄ = acts w₁ r₁ k₁ (total_energy 1) tt (floats (one_f ∷ [])) refl w₁ (outcome 0 r₁ joules) read (study_put w₁ r₁ k₁.ok h₁ refl) refl

g₆ : Honest engine e₆
g₆ = acts w₁ r₁ k₁ (step one_f) (all_replicate held 1 one_f one_fits) nothing refl w₂ (outcome 0 r₂ s₂) stepping.0 (study_put w₂ r₂ k₂.ok h₂ refl) refl

pub is_run₁₃ : RunA engine run₁₃
is_run₁₃ =
    makes e₁₃ (
    makes e₁₂ (
    makes e₁₁ (
    makes e₁₀ (
    makes e₉ (
    makes e₈ (
    makes e₇ (
    makes e₆ (
    makes e₅ (
    makes e₄ (
    makes e₃ (
    makes e₂ (
    begins (cube 1) (lent_in w₀) w₀ nothing nothing w₁ nothing opened
    ) g₂ ((refl, refl), tt)
    ) (acts w₁ r₁ k₁ (plane_reading 1 1) tt (floats (one_f ∷ [])) refl w₁ (outcome 17 r₁ zero_f) no_plane refl refl) tt
    ) g₄ ((refl, refl), tt)
    ) (saves w₁ r₁ k₁ 2000 room_for.1) ((refl, refl), tt)
    ) g₆ ((refl, refl), tt)
    ) (saves w₂ r₂ k₂ 1389 (fits₂ 1389 0 room_for.2)) ((refl, refl), tt)
    ) (saves_not w₂ r₂ k₂ 1388 11 (fits₂ 1388 12 room_for.3)) tt
    ) (acts w₂ r₂ k₂ (set_periodic true false false) tt nothing refl w₃ (outcome 0 r₃ tt) periodic_x (study_put w₃ r₃ k₃.ok k₃.held refl) refl) ((refl, refl), tt)
    ) (rewinds_not w₃ b₊ 15 one_more.0 one_more.1) tt
    ) (honest_none w₆ w₆ nothing nothing (step one_f) (all_replicate held 1 one_f one_fits) refl none_there refl refl refl) tt
    ) not_opened tt
    ) (opens w₅ w₄ (cube 2) (said 2) r₄ refl k₄ refl judged.2 (length-replicate {A = ℕ} block_length 7)) (tt, tt)

pub is_run : RunA engine run₁₅
is_run =
    makes e₁₅ (
    makes e₁₄ is_run₁₃ (resumed w₁ r₁ k₁ 1389 room_for.0 w₃ as_long (long w₃ r₃ k₃))
    (tt, inr (inr (inr (inr (inr (inr (inr (inr (inr (inr (inr (inl refl))))))))))))
    ) g₂ ((refl, refl), tt)

g₁₇ : Honest engine e₁₇
g₁₇ = acts w₂ r₂ k₂ (step one_f) (all_replicate held 1 one_f one_fits) nothing refl w₇ (outcome 0 r₅ s₅) stepping_on (study_put w₇ r₅ k₅.ok k₅.held refl) refl

pub is_run₁₇ : RunA engine run₁₇
is_run₁₇ =
    makes e₁₇ (
    makes e₁₆ is_run (resumed w₂ r₂ k₂ 1389 (fits₂ 1389 0 room_for.2) w₁ (sym as_long) (long w₁ r₁ k₁))
    (tt, inr (inr (inr (inr (inr (inr (inr (inr (inl refl)))))))))
    ) g₁₇ ((refl, refl), tt)

-- ---- what stands. The saves of two studies are other bytes
others : b₁ ≡ b₂ → ⊥
unfolding canon
others e =
    let k = savable r₁ s₁ 1389 saved₁ in
    let m = savable r₂ s₂ 1389 saved₂ in
    let p = (save_names r₁ s₁ k.ok k.held k.fit k.kept r₂ s₂ m.ok m.held m.fit m.kept e).0 in
    let z : ◌≡◌ {A = ℕ} 0 1 = ap (λ (r : Record). r.clock.steps) p in
    omega arith

differ : same_bytes b₁ b₂ ≡ false
differ = go (same_bytes b₁ b₂) refl
  where
    go : (t : Bool) → same_bytes b₁ b₂ ≡ t → t ≡ false
    go true e = absurd (others (same_true b₁ b₂ e))
    go false e = refl

differ₂ : same_bytes b₂ b₁ ≡ false
differ₂ = go (same_bytes b₂ b₁) refl
  where
    go : (t : Bool) → same_bytes b₂ b₁ ≡ t → t ≡ false
    go true e = absurd (others (sym (same_true b₂ b₁ e)))
    go false e = refl

-- up to the second opening everything that was accepted stands, refused calls do not
pub stands₁₃ : standing engine run₁₃ ≡ e₁₃ ∷ e₉ ∷ e₇ ∷ e₆ ∷ e₅ ∷ e₄ ∷ e₂ ∷ e₁ ∷ []
stands₁₃ = refl

-- the rewind puts back the copy of the second save: the first save and the reading after it are in it, the second save is not
second_copy : (otherwise copy₇ copy₅ copy₂ : List (Made engine)) → latest engine b₁ otherwise ((b₂, copy₇) ∷ (b₁, copy₅) ∷ (b₁, copy₂) ∷ []) ≡ copy₅
second_copy otherwise copy₇ copy₅ copy₂ = rw (differ, same_refl b₁)

pub stands₁₅ : standing engine run₁₅ ≡ e₁₅ ∷ e₄ ∷ e₂ ∷ e₁ ∷ []
stands₁₅ = ap (λ (l : List (Made engine)). e₁₅ ∷ l) (second_copy _ _ _ _)

pub no_step_stands : since engine weight_of (calls engine (standing engine run₁₅)) ≡ 0
no_step_stands = ap (λ (l : List (Made engine)). since engine weight_of (calls engine l)) stands₁₅

-- ---- run B, made of the same calls, and that the two agree
abbrev run_b : List (Made engine)
run_b = e₁₅ ∷ e₄ ∷ e₂ ∷ e₁ ∷ []

pub is_run_b : RunB engine run_b
is_run_b = follows e₁₅ (follows e₄ (follows e₂ (follows e₁ idle opened tt) g₂ (refl, refl)) g₄ (refl, refl)) g₂ (refl, refl)

pub agreed : Agreed engine run₁₅ run_b
agreed = demand_3.claim run₁₅ is_run run_b is_run_b (ap (calls engine) (sym stands₁₅))

-- the second rewind puts back the copy of the branch's save: the step stands again, and the step after it
branch_copy : (otherwise copy₁₅ copy₇ copy₅ copy₂ : List (Made engine))
    → latest engine b₂ otherwise ((b₁, copy₁₅) ∷ (b₂, copy₇) ∷ (b₁, copy₅) ∷ (b₁, copy₂) ∷ []) ≡ copy₇
branch_copy otherwise copy₁₅ copy₇ copy₅ copy₂ = rw (differ₂, same_refl b₂)

pub stands₁₇ : standing engine run₁₇ ≡ e₁₇ ∷ e₆ ∷ e₅ ∷ e₄ ∷ e₂ ∷ e₁ ∷ []
stands₁₇ = ap (λ (l : List (Made engine)). e₁₇ ∷ l) (branch_copy _ _ _ _ _)

pub two_steps_stand : since engine weight_of (calls engine (standing engine run₁₇)) ≡ 2
two_steps_stand = ap (λ (l : List (Made engine)). since engine weight_of (calls engine l)) stands₁₇

abbrev pub run_b₁₇ : List (Made engine)
run_b₁₇ = e₁₇ ∷ e₆ ∷ e₅ ∷ e₄ ∷ e₂ ∷ e₁ ∷ []

pub is_run_b₁₇ : RunB engine run_b₁₇
is_run_b₁₇ =
    follows e₁₇ (
    follows e₆ (
    follows e₅ (
    follows e₄ (follows e₂ (follows e₁ idle opened tt) g₂ (refl, refl)) g₄ (refl, refl)
    ) (saves w₁ r₁ k₁ 2000 room_for.1) (refl, refl)
    ) g₆ (refl, refl)
    ) g₁₇ (refl, refl)

-- ---- demands 1 and 2 on calls of this run: the refused opening left all as it was and named its fault; the save of the branch is read as the study that wrote it,
-- which writes these bytes again
pub left_alone : Unchanged e₁₂.handed e₁₂.left × (e₁₂.back ≡ puts nothing e₁₂.lent)
left_alone = demand_1.unwritten e₁₂ 4 nothing not_opened refl

pub named : does engine e₁₂.call (study_of w₁) ≡ turned 4 nothing
named = demand_1.names e₁₂ 4 nothing not_opened refl

abbrev t₂ : Study
t₂ = record { rec = r₂; kept = s₂ }

pub taken_up : loads_from b₂ (lent_in w₂) ≡ given nothing t₂
taken_up = demand_2.reads w₂ t₂ t₂ (at w₂ r₂ k₂) 1389 (numbers b₂) (rw (fits₂ 1389 0 room_for.2))

pub written_again : is_old b₂ ≡ false → save_bytes r₂ s₂ ≡ b₂
written_again = demand_2.writes b₂ (save_fit r₂ s₂) (lent_in w₂) nothing t₂ taken_up
