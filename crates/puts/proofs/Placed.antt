-- Records as code writes them, one after another from a place on. Assumes nothing.
use Prim.Native.Nat.{ℕ, ◌+◌, ◌*◌, ◌≤◌, ◌<◌}
use native.Mathlib.Nat.{zero-mul, suc-mul}
use native.Mathlib.Numerals.{add-one}
use native.Mathlib.Omega.{arith}
use mathlib.Core.Path.{◌≡◌, refl, sym, ap, ◌∙◌}
use mathlib.Core.Bool.{Bool, cond}
use mathlib.Core.List.{List, [], ◌∷◌, ◌++◌, append_assoc, append-nil}
use lib.ListN.{length, get_or, take}
use lib.Seq.{length-take-le, take-add, take_all}
use lib.Ieee.{Float, binary64, to_bits}
use Rattle.codec.specs.Lists.{put, part}
use Rattle.codec.specs.Bytes.{bytes_of, floats_bytes, ids_bytes}
use Rattle.codec.specs.Frame.{frame_bytes}
use Rattle.codec.proofs.Lists.{put_nil, put_next, part_length}
use Rattle.codec.proofs.Elements.{bytes_of_append}
use Rattle.codec.proofs.Framed.{length_frame}
use Rattle.cells.specs.Cells.{joined}
use Rattle.cells.proofs.Written.{joined_more, joined_all}
use Rattle.dispersion.specs.declared.DispersiveMaterial.{DispersiveMaterial}
use Rattle.grid.specs.declared.Record.{Record}
use Rattle.grid.specs.Stores.{Stores}
use Rattle.grid.specs.Fault.{beyond}
use Rattle.cpml.specs.Memory.{in_order, memory_of}
use Rattle.cpml.proofs.Memories.{part_in, either_long, memory_in_order}
use Rattle.format.specs.Records.{Piece, piece, framed, frames}
use Rattle.heads.specs.Numbers.{ml_length}
use Rattle.heads.specs.Payloads.{head_bytes, material_bytes}
use Rattle.format.specs.Save.{mark_gh, mark_ml, mark_ci, mark_cm, mark_fe, mark_fh, mark_le, mark_lh, mark_lt, mark_pp, mark_ax, list_bytes, pieces, save_bytes}
use Rattle.puts.specs.Inner.Places.{list_place, stores_place}
use Rattle.puts.specs.Inner.Room.{Roomy}
use Rattle.format.proofs.Written.{extent, frames_long, floats_long, ids_long, head_long, material_long, list_long}

pub frames_append : (ps qs : List Piece) → frames (ps ++ qs) ≡ frames ps ++ frames qs
unfolding frames
frames_append [] qs = refl
frames_append (p ∷ ps) qs = ap (λ (x : List ℕ). framed p ++ x) (frames_append ps qs) ∙ sym (append_assoc (framed p) (frames ps) (frames qs))

extent_append : (ps qs : List Piece) → extent (ps ++ qs) ≡ extent ps + extent qs
unfolding extent
extent_append [] qs = omega arith
extent_append (p ∷ ps) qs = omega (arith, extent_append ps qs)

-- one record: its six bytes, then its payload
pub wrote_one : (l a o : List ℕ) (at m n : ℕ) (p : List ℕ) → a ≡ put l at (frame_bytes m n) → n ≡ length p → o ≡ put a (at + 6) p → at + (6 + length p) ≤ length l →
    o ≡ put l at (frames (piece m p ∷ []))
unfolding frames
wrote_one l a o at m n p e q f h =
    f
    ∙ ap (λ (x : List ℕ). put x (at + 6) p) e
    ∙ put_next l at 6 (frame_bytes m n) p (length_frame m n) (omega arith)
    ∙ ap (λ (k : ℕ). put l at (frame_bytes m k ++ p)) q
    ∙ ap (put l at) (sym (append-nil (frame_bytes m (length p) ++ p)))

-- o is l with the records ps, k bytes, written from `at` up to n
pub record Wrote (l : List ℕ) (at : ℕ) (ps : List Piece) (k : ℕ) (o : List ℕ) (n : ℕ) : Type 0 where
  pub is : o ≡ put l at (frames ps)
  pub long : extent ps ≡ k
  pub ends : n ≡ at + k

pub wrote_then : (l a o : List ℕ) (at n n' k j : ℕ) (ps qs : List Piece) → Wrote l at ps k a n → extent qs ≡ j → n' ≡ n + j → o ≡ put a n (frames qs) → at + (k + j) ≤ length l →
    Wrote l at (ps ++ qs) (k + j) o n'
wrote_then l a o at n n' k j ps qs w e f q h = record {
  is =
      q
      ∙ ap (λ (x : List ℕ). put x n (frames qs)) w.is
      ∙ ap (λ (i : ℕ). put (put l at (frames ps)) i (frames qs)) w.ends
      ∙ put_next l at k (frames ps) (frames qs) (frames_long ps ∙ w.long) (omega (arith, frames_long qs, e))
      ∙ ap (put l at) (sym (frames_append ps qs));
  long = extent_append ps qs ∙ omega (arith, w.long, e);
  ends = omega (arith, w.ends, f);
}

-- ---- a store
floats_extent : (m : ℕ) (xs : List Float) → extent (piece m (floats_bytes xs) ∷ []) ≡ 6 + 8 * length xs
unfolding extent
floats_extent m xs = omega (arith, floats_long xs)

pub first_floats : (l o : List ℕ) (at n m : ℕ) (xs : List Float) → (n ≡ at + (6 + 8 * length xs)) × (o ≡ put l at (frames (piece m (floats_bytes xs) ∷ []))) →
    Wrote l at (piece m (floats_bytes xs) ∷ []) (6 + 8 * length xs) o n
first_floats l o at n m xs e = record { is = e.1; long = floats_extent m xs; ends = e.0 }

pub first_ids : (l o : List ℕ) (at n m : ℕ) (ns : List ℕ) → (n ≡ at + (6 + 4 * length ns)) × (o ≡ put l at (frames (piece m (ids_bytes ns) ∷ []))) →
    Wrote l at (piece m (ids_bytes ns) ∷ []) (6 + 4 * length ns) o n
unfolding extent
first_ids l o at n m ns e = record { is = e.1; long = omega (arith, ids_long ns); ends = e.0 }

pub then_floats : (l a o : List ℕ) (at n n' k m : ℕ) (ps : List Piece) (xs : List Float) → Wrote l at ps k a n →
    (n' ≡ n + (6 + 8 * length xs)) × (o ≡ put a n (frames (piece m (floats_bytes xs) ∷ []))) → at + (k + (6 + 8 * length xs)) ≤ length l →
    Wrote l at (ps ++ (piece m (floats_bytes xs) ∷ [])) (k + (6 + 8 * length xs)) o n'
then_floats l a o at n n' k m ps xs w e h = wrote_then l a o at n n' k (6 + 8 * length xs) ps (piece m (floats_bytes xs) ∷ []) w (floats_extent m xs) e.0 e.1 h

-- ---- a store of memories, one after another
pub memories_none : (l : List ℕ) (at n : ℕ) (s : List Float) → l ≡ put l at (floats_bytes (take (0 * n) s))
unfolding bytes_of
memories_none l at n s = sym (ap (λ (k : ℕ). put l at (floats_bytes (take k s))) (zero-mul n) ∙ put_nil l at)

pub memories_more : (l t u : List ℕ) (at k n : ℕ) (electric : Bool) (e h : List Float) → length e ≡ 6 * n → length h ≡ 6 * n → k < 6 → at + 48 * n ≤ length l →
    t ≡ put l at (floats_bytes (take (k * n) (cond electric e h))) → u ≡ put t (at + 8 * (k * n)) (floats_bytes (memory_of (in_order electric k) e h n)) →
    u ≡ put l at (floats_bytes (take ((k + 1) * n) (cond electric e h)))
unfolding part
memories_more l t u at k n electric e h pe ph small room p q =
    let s = cond electric e h in
    let long : length s ≡ 6 * n = either_long electric e h (6 * n) pe ph in
    let inside : k * n + n ≤ 6 * n = part_in k n (omega (arith, small)) in
    let before : length (take (k * n) s) ≡ k * n = length-take-le (k * n) s (omega arith) in
    let after : length (part s (k * n) n) ≡ n = part_length s (k * n) n (omega arith) in
    let wide : length (floats_bytes (take (k * n) s)) ≡ 8 * (k * n) = floats_long (take (k * n) s) ∙ ap (λ (i : ℕ). 8 * i) before in
    let next : k * n + n ≡ (k + 1) * n = sym (ap (λ (i : ℕ). i * n) (add-one k) ∙ suc-mul k n) in
    q
    ∙ ap (λ (m : List Float). put t (at + 8 * (k * n)) (floats_bytes m)) (memory_in_order electric k e h n small)
    ∙ ap (λ (x : List ℕ). put x (at + 8 * (k * n)) (floats_bytes (part s (k * n) n))) p
    ∙ put_next l at (8 * (k * n)) (floats_bytes (take (k * n) s)) (floats_bytes (part s (k * n) n)) wide (omega (arith, floats_long (part s (k * n) n)))
    ∙ ap (put l at) (sym (bytes_of_append 8 (to_bits binary64) (take (k * n) s) (part s (k * n) n)))
    ∙ ap (λ (m : List Float). put l at (floats_bytes m)) (sym (take-add (k * n) n s) ∙ ap (λ (i : ℕ). take i s) next)

pub memories_all : (l t : List ℕ) (at k n : ℕ) (electric : Bool) (e h : List Float) → length e ≡ 6 * n → length h ≡ 6 * n → k ≡ 6 →
    t ≡ put l at (floats_bytes (take (k * n) (cond electric e h))) → t ≡ put l at (floats_bytes (cond electric e h))
memories_all l t at k n electric e h pe ph six p =
    let s = cond electric e h in
    let long : length s ≡ 6 * n = either_long electric e h (6 * n) pe ph in
    p ∙ ap (λ (i : ℕ). put l at (floats_bytes (take (i * n) s))) six ∙ ap (λ (m : List Float). put l at (floats_bytes m)) (take_all (6 * n) s (omega arith))

-- a record of memories, n numbers each, as one of floats
pub memories_floats : {P : Type 0} (at p n : ℕ) (xs : List Float) → length xs ≡ 6 * n → (p ≡ at + (6 + 48 * n)) × P → (p ≡ at + (6 + 8 * length xs)) × P
memories_floats at p n xs long e = (omega (arith, long, e.0), e.1)

-- ---- the materials
pub list_more : (s t u : List ℕ) (at i n : ℕ) (ms : List DispersiveMaterial) → at + ml_length * n ≤ length s → i < n →
    t ≡ put s at (joined i (λ k. material_bytes (get_or ms k beyond))) → u ≡ put t (at + ml_length * i) (material_bytes (get_or ms i beyond)) →
    u ≡ put s at (joined (i + 1) (λ k. material_bytes (get_or ms k beyond)))
list_more s t u at i n ms e h p q =
    let place : at + ml_length * i ≡ at + i * ml_length = omega arith in
    joined_more s t u at i ml_length (λ k. material_bytes (get_or ms k beyond)) (λ k. material_long (get_or ms k beyond)) (omega (arith, e, h)) p
    (q ∙ ap (λ (k : ℕ). put t k (material_bytes (get_or ms i beyond))) place)

pub list_all : (s t : List ℕ) (at i : ℕ) (r : Record) → t ≡ put s at (joined i (λ k. material_bytes (get_or r.materials k beyond))) → i ≡ r.material_count → t ≡ put s at (list_bytes r)
unfolding list_bytes
list_all s t at i r p e = joined_all s t at i r.material_count (λ k. material_bytes (get_or r.materials k beyond)) p e

-- ---- the whole save, in five goes
module _ (r : Record) (s : Stores) where
  abbrev heads : List Piece
  heads = piece mark_gh (head_bytes r) ∷ []

  abbrev lists : List Piece
  lists = piece mark_ml (list_bytes r) ∷ []

  abbrev cellular : List Piece
  cellular = piece mark_ci (ids_bytes s.ids) ∷ piece mark_cm (floats_bytes s.media) ∷ piece mark_fe (floats_bytes s.electric) ∷ piece mark_fh (floats_bytes s.magnetic) ∷ []

  abbrev layered : List Piece
  layered = piece mark_le (floats_bytes s.psi_e) ∷ piece mark_lh (floats_bytes s.psi_h) ∷ piece mark_lt (floats_bytes s.tables) ∷ []

  abbrev ends : List Piece
  ends = piece mark_pp (floats_bytes s.poles) ∷ piece mark_ax (floats_bytes s.aux) ∷ []

  abbrev n_cells : ℕ
  n_cells = 24 + 4 * length s.ids + 8 * length s.media + 8 * length s.electric + 8 * length s.magnetic

  abbrev n_layer : ℕ
  n_layer = 18 + 8 * length s.psi_e + 8 * length s.psi_h + 8 * length s.tables

  heads_extent : extent heads ≡ list_place
  unfolding extent
  heads_extent = omega (arith, head_long r)

  lists_extent : extent lists ≡ 6 + ml_length * r.material_count
  unfolding extent
  lists_extent = omega (arith, list_long r)

  cells_extent : extent cellular ≡ n_cells
  unfolding extent
  cells_extent = omega (arith, ids_long s.ids, floats_long s.media, floats_long s.electric, floats_long s.magnetic)

  layer_extent : extent layered ≡ n_layer
  unfolding extent
  layer_extent = omega (arith, floats_long s.psi_e, floats_long s.psi_h, floats_long s.tables)

  ends_extent : extent ends ≡ 12 + 8 * length s.poles + 8 * length s.aux
  unfolding extent
  ends_extent = omega (arith, floats_long s.poles, floats_long s.aux)

  pub whole_put : (l a b c d o : List ℕ) (p q t : ℕ) →
      Roomy r.material_count (length s.electric) (length s.magnetic) (length s.media) (length s.psi_e) (length s.psi_h) (length s.tables) (length s.poles) (length s.aux) (length s.ids) (length l) →
      a ≡ put l 0 (frames heads) → (p ≡ stores_place r.material_count) × (b ≡ put a list_place (frames lists)) → (q ≡ p + n_cells) × (c ≡ put b p (frames cellular)) →
      (t ≡ q + n_layer) × (d ≡ put c q (frames layered)) → o ≡ put d t (frames ends) → o ≡ put l 0 (save_bytes r s)
  unfolding save_bytes pieces
  whole_put l a b c d o p q t room e1 e2 e3 e4 e5 =
      let w1 : Wrote l 0 heads list_place a list_place = record { is = e1; long = heads_extent; ends = refl } in
      let w2 = wrote_then l a b 0 list_place p list_place (6 + ml_length * r.material_count) heads lists w1 lists_extent (omega (arith, e2.0)) e2.1 (omega (arith, room.all)) in
      let w3 = wrote_then l b c 0 p q _ n_cells (heads ++ lists) cellular w2 cells_extent e3.0 e3.1 (omega (arith, room.all)) in
      let w4 = wrote_then l c d 0 q t _ n_layer (heads ++ lists ++ cellular) layered w3 layer_extent e4.0 e4.1 (omega (arith, room.all)) in
      let w5 = wrote_then l d o 0 t _ _ (12 + 8 * length s.poles + 8 * length s.aux) (heads ++ lists ++ cellular ++ layered) ends w4 ends_extent refl e5 (omega (arith, room.all)) in
      w5.is
