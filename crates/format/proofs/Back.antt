-- A study without fault, saved: its save has no fault and says the study again. Assumes nothing.
use Prim.Native.Nat.{ℕ, suc, ◌<◌}
use native.Mathlib.Omega.{arith}
use mathlib.Core.Path.{◌≡◌, refl, sym, ap, ◌∙◌, subst}
use mathlib.Core.Bool.{Bool, true, false}
use mathlib.Core.List.{List, [], ◌++◌, append_assoc, append-nil}
use borrow.Author.Tests.{eq-eqb}
use lib.Dec.{T, eqb}
use lib.ListN.{length, get_or, drop}
use lib.Ieee.{Float}
use Rattle.codec.specs.Lists.{part}
use Rattle.codec.specs.Bytes.{unle, floats_bytes, floats_of, floats_fit, ids_bytes, ids_of}
use Rattle.codec.specs.Frame.{frame_fault}
use Rattle.codec.proofs.Back.{floats_back, ids_back}
use Rattle.grid.specs.declared.Record.{Record}
use Rattle.grid.specs.declared.stores.Lengths.{Lengths}
use Rattle.grid.specs.Canon.{canon}
use Rattle.grid.specs.Fault.{first, fault_of}
use Rattle.grid.specs.Stores.{Stores, stores, store_lengths, lengths_of, same_lengths, bad_store, lent_fault}
use Rattle.heads.specs.Numbers.{gh_length, gh_nums}
use Rattle.heads.specs.Payloads.{head_bytes, head_of, head_by, record_of}
use Rattle.block.specs.Inner.Held.{Held}
use Rattle.format.specs.Records.{Piece, piece, framed, frames, trailing, Expected, records_fault, payload_from}
use Rattle.format.specs.Save.{mark_gh, list_bytes, pieces, save_bytes}
use Rattle.format.specs.Rewind.{is_old, save_head, bare, head_record, table, table_by, bytes_fault, payload_of, read_record, read_stores, rewind_fault}
use Rattle.format.specs.InMemory.{StoresHeld}
use Rattle.format.proofs.Walk.{Meets, AllMeet, met_frame, walk_met, walk_from}
use Rattle.format.proofs.Bare.{own_lengths}
use Rattle.format.proofs.Old.{frame_says, is_new}
use Rattle.format.proofs.Written.{head_nums, list_back, table_met, own_table}

pub same_self : (l : Lengths) → same_lengths l l ≡ true
unfolding same_lengths
same_self l =
    rw (
      eq-eqb l.electric _ refl,
      eq-eqb l.magnetic _ refl,
      eq-eqb l.media _ refl,
      eq-eqb l.psi_e _ refl,
      eq-eqb l.psi_h _ refl,
      eq-eqb l.tables _ refl,
      eq-eqb l.poles _ refl,
      eq-eqb l.aux _ refl,
      eq-eqb l.ids _ refl,
    )

-- the nine stores, each as it was
pub nine_same : (a b c d e f g h a' b' c' d' e' f' g' h' : List Float) (i i' : List ℕ) → a ≡ a' → b ≡ b' → c ≡ c' → d ≡ d' → e ≡ e' → f ≡ f' → g ≡ g' → h ≡ h' → i ≡ i' →
    stores a b c d e f g h i ≡ stores a' b' c' d' e' f' g' h' i'
nine_same a b c d e f g h a' b' c' d' e' f' g' h' i i' p q r s t u v w x = rw (p, q, r, s, t, u, v, w, x)

canon_lengths : (r : Record) → store_lengths (canon r) ≡ store_lengths r
unfolding store_lengths canon
canon_lengths r = refl

module _ (r : Record) (s : Stores) (ok : fault_of r ≡ 0) (h : Held r) (fit : lengths_of s ≡ store_lengths r) (k : StoresHeld s) where
  abbrev g : List ℕ
  g = gh_nums r

  abbrev es : List Expected
  es = table_by false g

  abbrev ps : List Piece
  ps = pieces r s

  abbrev none : Piece
  none = piece 0 []

  met : AllMeet es ps
  met = subst (λ (t : List Expected). AllMeet t ps) (sym (own_table r s ok h fit k)) (table_met r s ok h fit k)

  first_met : Meets (head_record false) (piece mark_gh (head_bytes r))
  unfolding table pieces AllMeet
  first_met = (table_met r s ok h fit k).0

  abbrev later : List ℕ
  later = frames (drop 1 ps)

  -- the save as its GH and what follows
  as_first : save_bytes r s ≡ framed (piece mark_gh (head_bytes r)) ++ later
  unfolding save_bytes frames pieces
  as_first = refl

  -- its GH is a new one
  module _ (rest : List ℕ) where
    first_frame : frame_fault mark_gh gh_length (save_bytes r s ++ rest) ≡ 0
    first_frame =
        ap (λ (x : List ℕ). frame_fault mark_gh gh_length (x ++ rest)) as_first
        ∙ ap (frame_fault mark_gh gh_length) (append_assoc (framed (piece mark_gh (head_bytes r))) later rest)
        ∙ met_frame (head_record false) _ first_met (later ++ rest)

    pub saved_size : unle (part (save_bytes r s ++ rest) 2 4) ≡ gh_length
    saved_size = frame_says mark_gh gh_length (save_bytes r s ++ rest) first_frame

    pub saved_new : is_old (save_bytes r s ++ rest) ≡ false
    saved_new = is_new (save_bytes r s ++ rest) saved_size

  module _ (rest : List ℕ) where
    abbrev b : List ℕ
    b = save_bytes r s ++ rest

    abbrev new : is_old (save_bytes r s ++ rest) ≡ false
    new = saved_new rest

    -- the bytes from record i's payload on
    abbrev after : ℕ → List ℕ
    after i = frames (drop (suc i) ps) ++ rest

    from : (i : ℕ) → i < 11 → payload_from es i b ≡ (get_or ps i none).payload ++ after i
    unfolding save_bytes pieces
    from i l = walk_from es ps i none rest met l

    head_is : save_head b ≡ g
    unfolding table_by table payload_from pieces
    head_is = ap (λ (o : Bool). head_by o (drop 6 b)) new ∙ ap head_of (from 0 (omega arith)) ∙ head_nums r ok h (after 0)

    -- the bytes of a study and what follows: 16 unless nothing does
    pub saved_fault : bytes_fault b ≡ first (eqb (length rest) 0) trailing 0
    unfolding bytes_fault save_bytes
    saved_fault =
        ap (λ (o : Bool). records_fault (table_by o (save_head b)) b) new
        ∙ ap (λ (n : List ℕ). records_fault (table_by false n) b) head_is
        ∙ walk_met es ps rest met

    payload_is : (i : ℕ) → i < 11 → payload_of b i ≡ (get_or ps i none).payload ++ after i
    payload_is i l =
        ap (λ (o : Bool). payload_from (table_by o (save_head b)) i b) new
        ∙ ap (λ (n : List ℕ). payload_from (table_by false n) i b) head_is
        ∙ from i l

    list_is : payload_of b 1 ≡ list_bytes r ++ after 1
    unfolding pieces
    list_is = payload_is 1 (omega arith)

    pub saved_record : read_record b ≡ canon r
    unfolding read_record
    saved_record =
        ap (λ (n : List ℕ). record_of n (payload_of b 1)) head_is ∙ ap (record_of g) list_is ∙ list_back r ok h (after 1)

    lengths_are : store_lengths (bare (save_head b)) ≡ lengths_of s
    lengths_are = ap (λ (n : List ℕ). store_lengths (bare n)) head_is ∙ own_lengths r ∙ sym fit

    floats_are : (n : ℕ) (p : List ℕ) (xs : List Float) (more : List ℕ) → n ≡ length xs → p ≡ floats_bytes xs ++ more → T (floats_fit xs) → floats_of n p ≡ xs
    floats_are n p xs more e q t = ap (λ (m : ℕ). floats_of m p) e ∙ ap (floats_of (length xs)) q ∙ floats_back xs more t

    ids_are : (n : ℕ) (p : List ℕ) (more : List ℕ) → n ≡ length s.ids → p ≡ ids_bytes s.ids ++ more → ids_of n p ≡ s.ids
    ids_are n p more e q = ap (λ (m : ℕ). ids_of m p) e ∙ ap (ids_of (length s.ids)) q ∙ ids_back s.ids more k.ids

    pub saved_stores : read_stores b ≡ s
    unfolding read_stores pieces
    saved_stores =
        nine_same _ _ _ _ _ _ _ _ _ _ _ _ _ _ _ _ _ _
        (floats_are _ _ s.electric (after 4) (ap (λ (l : Lengths). l.electric) lengths_are) (payload_is 4 (omega arith)) k.electric)
        (floats_are _ _ s.magnetic (after 5) (ap (λ (l : Lengths). l.magnetic) lengths_are) (payload_is 5 (omega arith)) k.magnetic)
        (floats_are _ _ s.media (after 3) (ap (λ (l : Lengths). l.media) lengths_are) (payload_is 3 (omega arith)) k.media)
        (floats_are _ _ s.psi_e (after 6) (ap (λ (l : Lengths). l.psi_e) lengths_are) (payload_is 6 (omega arith)) k.psi_e)
        (floats_are _ _ s.psi_h (after 7) (ap (λ (l : Lengths). l.psi_h) lengths_are) (payload_is 7 (omega arith)) k.psi_h)
        (floats_are _ _ s.tables (after 8) (ap (λ (l : Lengths). l.tables) lengths_are) (payload_is 8 (omega arith)) k.tables)
        (floats_are _ _ s.poles (after 9) (ap (λ (l : Lengths). l.poles) lengths_are) (payload_is 9 (omega arith)) k.poles)
        (floats_are _ _ s.aux (after 10) (ap (λ (l : Lengths). l.aux) lengths_are) (payload_is 10 (omega arith)) k.aux)
        (ids_are _ _ (after 2) (ap (λ (l : Lengths). l.ids) lengths_are) (payload_is 2 (omega arith)))

  -- ---- (a) a save has no fault but 4, and says the study again
  pub save_judged : (l : Lengths) → rewind_fault (save_bytes r s) l ≡ first (same_lengths l (store_lengths r)) bad_store 0
  unfolding rewind_fault
  save_judged l =
      ap (λ (b : List ℕ). lent_fault (bytes_fault b) (same_lengths l (store_lengths (read_record b)))) (sym (append-nil (save_bytes r s)))
      ∙ ap (λ (n : ℕ). lent_fault n (same_lengths l (store_lengths (read_record (save_bytes r s ++ []))))) (saved_fault [])
      ∙ ap (λ (q : Record). lent_fault 0 (same_lengths l (store_lengths q))) (saved_record [])
      ∙ ap (λ (n : Lengths). lent_fault 0 (same_lengths l n)) (canon_lengths r)

  pub save_accepted : rewind_fault (save_bytes r s) (lengths_of s) ≡ 0
  save_accepted =
      save_judged (lengths_of s)
      ∙ ap (λ (n : Lengths). first (same_lengths (lengths_of s) n) bad_store 0) (sym fit)
      ∙ ap (λ (t : Bool). first t bad_store 0) (same_self (lengths_of s))

  pub record_again : read_record (save_bytes r s) ≡ canon r
  record_again = ap read_record (sym (append-nil (save_bytes r s))) ∙ saved_record []

  pub stores_again : read_stores (save_bytes r s) ≡ s
  stores_again = ap read_stores (sym (append-nil (save_bytes r s))) ∙ saved_stores []
