-- An old save and the one that its study writes next: the length field of GH says 74, a 0 is put in behind GH's 73 bytes, and nothing else changes. Assumes
-- nothing.
use Prim.Native.Nat.{ℕ, ◌+◌, ◌≤◌}
use native.Mathlib.Omega.{arith}
use mathlib.Core.Path.{◌≡◌, sym, ap, ◌∙◌}
use mathlib.Core.Bool.{Bool, true}
use mathlib.Core.List.{List, [], ◌∷◌, ◌++◌, append_assoc, append-nil}
use lib.Dec.{T}
use lib.ListN.{length, get_or, take, drop, length-append, length-drop}
use lib.Seq.{length-take-le, take-take}
use Rattle.codec.specs.Lists.{part}
use Rattle.codec.specs.Bytes.{le, bytes_fit, enc, nums}
use Rattle.codec.specs.Frame.{frame_bytes, frame_fault}
use Rattle.codec.proofs.Lists.{every_drop}
use Rattle.codec.proofs.Framed.{frame_bytes_lem, frame_room}
use Rattle.grid.proofs.Tests.{or_none}
use Rattle.heads.specs.Numbers.{old_length, gh_widths, gh_length, gh_of}
use Rattle.heads.specs.Payloads.{head_by}
use Rattle.format.specs.Records.{record_fault, records_fault}
use Rattle.format.specs.Save.{mark_gh, save_bytes}
use Rattle.format.specs.Rewind.{is_old, size_by, save_head, head_record, table, table_by, bytes_fault, read_record, read_stores}
use Rattle.format.specs.ReadBack.{widened}
use Rattle.format.proofs.Old.{enc_old}
use Rattle.format.proofs.Again.{rewritten, bytes_rewritten}

-- ---- byte by byte
as_it_is : (l : List ℕ) (n : ℕ) (m : ℕ) → frame_fault m n l ≡ 0 → T (bytes_fit l) → take 2 l ≡ le 2 m
unfolding enc le
as_it_is l n m f t =
    let room = frame_room m n l f in
    sym (take-take 2 (6 + n) l (omega arith)) ∙ ap (take 2) (frame_bytes_lem m n l f t)

module _ (b : List ℕ) (bytes : T (bytes_fit b)) (ok : bytes_fault b ≡ 0) (old : is_old b ≡ true) where
  frame_none : frame_fault mark_gh old_length b ≡ 0
  unfolding bytes_fault table_by table records_fault record_fault
  frame_none =
      let f = (or_none (record_fault (head_record (is_old b)) b) _ ok).0 in
      ap (λ (o : Bool). frame_fault mark_gh (size_by o) b) (sym old) ∙ (or_none (frame_fault mark_gh (size_by (is_old b)) b) _ f).0

  room : 6 + old_length ≤ length b
  room = frame_room mark_gh old_length b frame_none

  payload_is : enc gh_widths (save_head b) ≡ part b 6 old_length ++ (0 ∷ [])
  unfolding part
  payload_is =
      ap (λ (o : Bool). enc gh_widths (head_by o (drop 6 b))) old
      ∙ enc_old (drop 6 b) (omega (arith, room, length-drop 6 b)) (every_drop _ 6 b bytes)

  payload_long : length (part b 6 old_length ++ (0 ∷ [])) ≡ gh_length
  unfolding part
  payload_long = length-append (part b 6 old_length) (0 ∷ []) ∙ omega (arith, length-take-le old_length (drop 6 b) (omega (arith, room, length-drop 6 b)))

  is_widened : rewritten b ≡ widened b
  unfolding rewritten enc
  is_widened =
      let rest : List ℕ = drop (6 + old_length) b in
      ap (λ (o : Bool). (frame_bytes mark_gh (length (enc gh_widths (save_head b))) ++ enc gh_widths (save_head b)) ++ drop (6 + size_by o) b) old
      ∙ ap (λ (p : List ℕ). (frame_bytes mark_gh (length p) ++ p) ++ rest) payload_is
      ∙ ap (λ (n : ℕ). (frame_bytes mark_gh n ++ (part b 6 old_length ++ (0 ∷ []))) ++ rest) payload_long
      ∙ joins (le 2 mark_gh) (le 4 gh_length) (part b 6 old_length) rest
      ∙ ap (λ (x : List ℕ). x ++ le 4 gh_length ++ part b 6 old_length ++ (0 ∷ rest)) (sym (as_it_is b old_length mark_gh frame_none bytes))
    where
      joins : (x y p l : List ℕ) → ((x ++ (y ++ [])) ++ (p ++ (0 ∷ []))) ++ l ≡ x ++ y ++ p ++ (0 ∷ l)
      joins x y p l =
          ap (λ (z : List ℕ). ((x ++ z) ++ (p ++ (0 ∷ []))) ++ l) (append-nil y)
          ∙ ap (λ (z : List ℕ). z ++ l) (sym (append_assoc (x ++ y) p (0 ∷ [])))
          ∙ append_assoc (x ++ y ++ p) (0 ∷ []) l

  pub bytes_widened : save_bytes (read_record b) (read_stores b) ≡ widened b
  bytes_widened = bytes_rewritten b bytes ok ∙ is_widened

  -- it is read with the constants 0
  pub read_zero : (read_record b).constants ≡ 0
  unfolding read_record gh_of nums
  read_zero = ap (λ (o : Bool). get_or (head_by o (drop 6 b)) 26 0) old
