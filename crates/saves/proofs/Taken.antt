-- Bytes without fault as code reads them, by places; and the ends of a rewind, refused and accepted. Assumes nothing.
use Prim.Native.Nat.{ℕ, zero, suc, ◌+◌, ◌*◌, ◌≤◌, ◌<◌}
use native.Mathlib.Omega.{arith}
use mathlib.Core.Path.{◌≡◌, refl, sym, ap, ◌∙◌, subst}
use mathlib.Core.Bool.{Bool}
use mathlib.Core.List.{List, [], ◌∷◌}
use lib.Dec.{T, ltb, lt→ltb}
use lib.ListN.{length, get_or, drop}
use lib.Seq.{drop-drop}
use Rattle.codec.specs.Bytes.{bytes_fit, floats_of, ids_of}
use Rattle.codec.proofs.Lists.{every_of}
use Rattle.grid.specs.declared.Record.{Record}
use Rattle.grid.specs.declared.stores.Lengths.{Lengths}
use Rattle.grid.specs.Fault.{fault_of}
use Rattle.grid.specs.Stores.{Stores, store_lengths, lengths_of, same_lengths, lent_fault, fault_lent, fault_with}
use Rattle.grid.proofs.Settled.{with_none}
use Rattle.grid.proofs.Judging.{sound}
use Rattle.grid.proofs.Tests.{or_none}
use Rattle.heads.specs.Numbers.{gh_of}
use Rattle.heads.specs.Payloads.{head_by, count_of, materials_of, record_of}
use Rattle.format.specs.Records.{Expected, record_fault, records_fault, payload_from}
use Rattle.format.specs.Save.{save_length}
use Rattle.format.specs.Rewind.{is_old, save_head, bare, head_record, list_record, table, table_by, table_of, bytes_fault, payload_of, read_record, read_stores, rewind_fault}
use Rattle.saves.specs.Inner.Places.{list_from, entries_from, stores_from, stores_at}
use Rattle.format.proofs.Bare.{bare_lengths}
use Rattle.format.proofs.Back.{nine_same}
use Rattle.format.proofs.Again.{read_none, read_long}
use Rattle.judge.proofs.Judged.{head_room, head_count, record_left}
use Rattle.saves.proofs.Called.{RoomFor, roomy}

pub all_bytes : (b : List ℕ) → ((i : ℕ) → get_or b i 0 < 256) → T (bytes_fit b)
all_bytes b h = every_of (λ x. ltb x 256) b 0 (λ i _. lt→ltb (get_or b i 0) 256 (h i))

-- ---- GH and ML
module _ (b : List ℕ) (ok : bytes_fault b ≡ 0) where
  parts : (record_fault (head_record (is_old b)) b ≡ 0) × (record_fault (list_record (save_head b)) (drop (list_from (is_old b)) b) ≡ 0)
  unfolding bytes_fault table_by table records_fault
  parts =
      let z = or_none (record_fault (head_record (is_old b)) b) _ ok in
      (z.0, (or_none (record_fault (list_record (save_head b)) (drop (list_from (is_old b)) b)) _ z.1).0)

  pub gh_room : list_from (is_old b) ≤ length b
  gh_room = head_room (is_old b) b 0 (sym parts.0) refl

  pub ml_few : count_of (save_head b) ≤ 16
  ml_few = head_count (is_old b) b 0 (sym parts.0) refl

  pub ml_room : stores_from (is_old b) (count_of (save_head b)) ≤ length b
  ml_room = omega (arith, record_left (list_record (save_head b)) b (list_from (is_old b)) 0 (sym parts.1) refl gh_room)

  -- the same where code asked which length GH has
  module _ (old : Bool) (which : old ≡ is_old b) where
    pub gh_there : list_from old ≤ length b
    gh_there = subst (λ (o : Bool). list_from o ≤ length b) (sym which) gh_room

    pub ml_there : (g : List ℕ) → g ≡ head_by old (drop 6 b) → (stores_from old (count_of g) ≤ length b) × (count_of g ≤ 16)
    ml_there g e =
        let same : g ≡ save_head b = e ∙ ap (λ (o : Bool). head_by o (drop 6 b)) which in (
          subst (λ (o : Bool). stores_from o (count_of g) ≤ length b) (sym which) (subst (λ (x : List ℕ). stores_from (is_old b) (count_of x) ≤ length b) (sym same) ml_room),
          subst (λ (x : List ℕ). count_of x ≤ 16) (sym same) ml_few,
        )

pub record_read : (b : List ℕ) → record_of (save_head b) (drop (entries_from (is_old b)) b) ≡ read_record b
unfolding read_record table_by table payload_from
record_read b = ap (record_of (save_head b)) (sym (drop-drop 6 (list_from (is_old b)) b))

pub record_there : (b : List ℕ) (old : Bool) (g : List ℕ) (at : ℕ) → old ≡ is_old b → g ≡ head_by old (drop 6 b) → at ≡ entries_from old → record_of g (drop at b) ≡ read_record b
record_there b old g at which e p =
    ap (λ (x : List ℕ). record_of x (drop at b)) e
    ∙ ap (λ (k : ℕ). record_of (head_by old (drop 6 b)) (drop k b)) p
    ∙ ap (λ (o : Bool). record_of (head_by o (drop 6 b)) (drop (entries_from o) b)) which
    ∙ record_read b

-- ---- the stores
place_of : List Expected → ℕ → ℕ
place_of [] i = 0
place_of (e ∷ es) zero = 6
place_of (e ∷ es) (suc i) = 6 + e.size + place_of es i

at_place : (es : List Expected) (i : ℕ) (l : List ℕ) → i < length es → payload_from es i l ≡ drop (place_of es i) l
unfolding payload_from place_of
at_place [] i l h = absurd (let z : ⊥ = omega arith in z)
at_place (e ∷ es) zero l h = refl
at_place (e ∷ es) (suc i) l h = at_place es i (drop (6 + e.size) l) (omega arith) ∙ drop-drop (place_of es i) (6 + e.size) l

module _ (b : List ℕ) where
  abbrev n : Lengths
  n = store_lengths (bare (save_head b))

  abbrev at : ℕ
  at = stores_from (is_old b) (count_of (save_head b))

  place : (i k : ℕ) → i < 11 → place_of (table_of b) i ≡ k → drop k b ≡ payload_of b i
  unfolding table_by table
  place i k h e = sym (at_place (table_of b) i b h ∙ ap (λ (j : ℕ). drop j b) e)

  -- the stores that a save says, where code looks for them
  pub stores_read : stores_at n b at ≡ read_stores b
  unfolding stores_at read_stores place_of table_by table
  stores_read =
      nine_same _ _ _ _ _ _ _ _ _ _ _ _ _ _ _ _ _ _
      (ap (floats_of n.electric) (place 4 (at + (18 + 4 * n.ids + 8 * n.media)) (omega arith) (omega arith)))
      (ap (floats_of n.magnetic) (place 5 (at + (24 + 4 * n.ids + 8 * n.media + 8 * n.electric)) (omega arith) (omega arith)))
      (ap (floats_of n.media) (place 3 (at + (12 + 4 * n.ids)) (omega arith) (omega arith)))
      (ap (floats_of n.psi_e) (place 6 (at + (30 + 4 * n.ids + 8 * n.media + 8 * n.electric + 8 * n.magnetic)) (omega arith) (omega arith)))
      (ap (floats_of n.psi_h) (place 7 (at + (36 + 4 * n.ids + 8 * n.media + 8 * n.electric + 8 * n.magnetic + 8 * n.psi_e)) (omega arith) (omega arith)))
      (ap (floats_of n.tables) (place 8 (at + (42 + 4 * n.ids + 8 * n.media + 8 * n.electric + 8 * n.magnetic + 8 * n.psi_e + 8 * n.psi_h)) (omega arith) (omega arith)))
      (ap (floats_of n.poles) (place 9 (at + (48 + 4 * n.ids + 8 * n.media + 8 * n.electric + 8 * n.magnetic + 8 * n.psi_e + 8 * n.psi_h + 8 * n.tables)) (omega arith) (omega arith)))
      (ap (floats_of n.aux) (place 10 (at + (54 + 4 * n.ids + 8 * n.media + 8 * n.electric + 8 * n.magnetic + 8 * n.psi_e + 8 * n.psi_h + 8 * n.tables + 8 * n.poles)) (omega arith) (omega arith)))
      (ap (ids_of n.ids) (place 2 (at + 6) (omega arith) (omega arith)))

-- ---- bytes without fault, from which a record and stores are read
module _ (b : List ℕ) (none : 0 ≡ bytes_fault b) (small : (i : ℕ) → get_or b i 0 < 256) {r : Record} (own : r ≡ read_record b) where
  bytes : T (bytes_fit b)
  bytes = all_bytes b small

  pub count_own : r.material_count ≡ count_of (save_head b)
  unfolding read_record gh_of
  count_own = ap (λ (q : Record). q.material_count) own

  pub count_small : r.material_count ≤ 16
  count_small = omega (arith, count_own, ml_few b (sym none))

  module _ (s : Stores) where
    pub fault_is : fault_with r (lengths_of s) ≡ rewind_fault b (lengths_of s)
    unfolding rewind_fault fault_lent
    fault_is =
        let same = same_lengths (lengths_of s) (store_lengths (read_record b)) in
        ap (λ (t : Record). lent_fault (fault_of t) (same_lengths (lengths_of s) (store_lengths t))) own
        ∙ ap (λ (i : ℕ). lent_fault i same) (read_none b bytes (sym none) ∙ none)

    module _ (fits : 0 ≡ fault_with r (lengths_of s)) where
      fit : lengths_of s ≡ store_lengths (read_record b)
      fit = (with_none r (lengths_of s) (sym fits)).1 ∙ ap store_lengths own

      -- the bytes are enough for what is read from them
      pub stores_room : (at : ℕ) → at ≡ stores_from (is_old b) r.material_count →
          at + (54 + 4 * length s.ids + 8 * length s.media + 8 * length s.electric + 8 * length s.magnetic + 8 * length s.psi_e + 8 * length s.psi_h + 8 * length s.tables + 8 * length s.poles + 8 * length s.aux) ≤ length b
      stores_room at e =
          let room : RoomFor (read_record b) s (save_length (read_record b)) = roomy (read_record b) s (save_length (read_record b)) (save_length (read_record b)) (sound (read_record b) (read_none b bytes (sym none))) fit refl (omega arith) in
          omega (arith, e, ap (λ (q : Record). q.material_count) own, room.all, read_long b bytes (sym none))

      pub stores_said : (t : Stores) (at : ℕ) → at ≡ stores_from (is_old b) r.material_count → t ≡ stores_at (lengths_of s) b at → t ≡ read_stores b
      unfolding read_record
      stores_said t p f e =
          let lengths : lengths_of s ≡ store_lengths (bare (save_head b)) = fit ∙ sym (bare_lengths (save_head b) (materials_of (count_of (save_head b)) (payload_of b 1))) in
          e
          ∙ ap (stores_at (lengths_of s) b) f
          ∙ ap (λ (l : Lengths). stores_at l b (stores_from (is_old b) r.material_count)) lengths
          ∙ ap (λ (c : ℕ). stores_at (store_lengths (bare (save_head b))) b (stores_from (is_old b) c)) count_own
          ∙ stores_read b
