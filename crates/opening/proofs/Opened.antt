-- Stores as they are opened, written part by part; an opened record is canonical. Assumes nothing.
use mathlib.Core.Path.{◌≡◌, refl, sym, ap, ◌∙◌}
use mathlib.Core.List.{List, ◌++◌}
use Prim.Native.Nat.{ℕ, ◌+◌, ◌*◌, ◌≤◌}
use native.Mathlib.Nat.{zero-add}
use native.Mathlib.Omega.{arith}
use lib.ListN.{length, replicate, length-append, length-replicate}
use lib.Ieee.{Float}
use Rattle.root.specs.Rounded.{zero_f, one_f}
use Rattle.codec.specs.Lists.{put}
use Rattle.codec.proofs.Lists.{put_next, put_whole}
use Rattle.root.specs.declared.Spacings.{Spacings}
use Rattle.grid.specs.declared.Record.{Record}
use Rattle.grid.specs.declared.stores.Lengths.{Lengths}
use Rattle.grid.specs.Stores.{Stores, stores, zeros, cells, store_lengths, lengths_of}
use Rattle.grid.specs.Canon.{keep_first, canon_material, canon_region, canon}
use Rattle.opening.specs.Opening.{open_record, open_media, inactive, open_tables, open_stores}

-- one part after another from the front
pub front_next : (l : List Float) (n : ℕ) (vs ws : List Float) → length vs ≡ n → n + length ws ≤ length l → put (put l 0 vs) n ws ≡ put l 0 (vs ++ ws)
front_next l n vs ws e h = ap (λ (k : ℕ). put (put l 0 vs) k ws) (sym (zero-add n)) ∙ put_next l 0 n vs ws e (omega arith)

pub media_is : (l : List Float) (n : ℕ) → length l ≡ 3 * n → put (put l 0 (replicate (2 * n) one_f)) (2 * n) (zeros n) ≡ open_media n
unfolding open_media
media_is l n e =
    front_next l (2 * n) _ _ (length-replicate (2 * n) one_f) (omega (arith, length-replicate n zero_f))
    ∙ put_whole l (replicate (2 * n) one_f ++ zeros n) (simp (length-append, length-replicate) (omega arith))

module _ (n : ℕ) where
  ones_zeros : length (replicate n one_f ++ zeros (2 * n)) ≡ 3 * n
  ones_zeros = simp (length-append, length-replicate) (omega arith)

  up_to_b : length (replicate n one_f ++ zeros (2 * n) ++ replicate n one_f) ≡ 4 * n
  up_to_b = simp (length-append, length-replicate) (omega arith)

  pub length_inactive : length (inactive n) ≡ 6 * n
  unfolding inactive
  length_inactive = simp (length-append, length-replicate) (omega arith)

  pub inactive_is : (l : List Float) (at : ℕ) → at + 6 * n ≤ length l →
      put (put (put (put l at (replicate n one_f)) (at + n) (zeros (2 * n))) (at + 3 * n) (replicate n one_f)) (at + 4 * n) (zeros (2 * n)) ≡ put l at (inactive n)
  unfolding inactive
  inactive_is l at h =
      ap (λ t. put (put t (at + 3 * n) (replicate n one_f)) (at + 4 * n) (zeros (2 * n)))
      (put_next l at n _ _ (length-replicate n one_f) (omega (arith, length-replicate (2 * n) zero_f)))
      ∙ ap (λ t. put t (at + 4 * n) (zeros (2 * n))) (put_next l at (3 * n) _ _ ones_zeros (omega (arith, length-replicate n one_f)))
      ∙ put_next l at (4 * n) _ _ up_to_b (omega (arith, length-replicate (2 * n) zero_f))

pub tables_are : (l : List Float) (nx ny nz : ℕ) → length l ≡ 6 * (nx + ny + nz) →
    put (put (put l 0 (inactive nx)) (6 * nx) (inactive ny)) (6 * nx + 6 * ny) (inactive nz) ≡ open_tables nx ny nz
unfolding open_tables
tables_are l nx ny nz e =
    let two : length (inactive nx ++ inactive ny) ≡ 6 * nx + 6 * ny = simp (length-append, length_inactive) in
    ap (λ t. put t (6 * nx + 6 * ny) (inactive nz)) (front_next l (6 * nx) _ _ (length_inactive nx) (omega (arith, length_inactive ny)))
    ∙ front_next l (6 * nx + 6 * ny) _ _ two (omega (arith, length_inactive nz))
    ∙ put_whole l (inactive nx ++ inactive ny ++ inactive nz) (simp (length-append, length_inactive) (omega arith))

-- nine stores that were written one by one
pub opened_are : (r : Record) (s : Stores) (e h m pe ph t p a : List Float) (i : List ℕ) → lengths_of s ≡ store_lengths r →
    e ≡ zeros (length s.electric) → h ≡ zeros (length s.magnetic) → m ≡ open_media (cells r) → pe ≡ zeros (length s.psi_e) →
    ph ≡ zeros (length s.psi_h) → t ≡ open_tables r.nx r.ny r.nz → p ≡ zeros (length s.poles) → a ≡ zeros (length s.aux) →
    i ≡ replicate (length s.ids) 0 → stores e h m pe ph t p a i ≡ open_stores r
unfolding open_stores store_lengths
opened_are r s e h m pe ph t p a i len h0 h1 h2 h3 h4 h5 h6 h7 h8 =
    let e0 = h0 ∙ ap (λ (l : Lengths). zeros l.electric) len in
    let e1 = h1 ∙ ap (λ (l : Lengths). zeros l.magnetic) len in
    let e3 = h3 ∙ ap (λ (l : Lengths). zeros l.psi_e) len in
    let e4 = h4 ∙ ap (λ (l : Lengths). zeros l.psi_h) len in
    let e6 = h6 ∙ ap (λ (l : Lengths). zeros l.poles) len in
    let e7 = h7 ∙ ap (λ (l : Lengths). zeros l.aux) len in
    let e8 = h8 ∙ ap (λ (l : Lengths). replicate l.ids 0) len in
    rw (e0, e1, h2, e3, e4, h5, e6, e7, e8)

-- an opened record is its own canon
pub open_canon : (nx ny nz slots : ℕ) (s : Spacings) (c : ℕ) → canon (open_record nx ny nz slots s c) ≡ open_record nx ny nz slots s c
unfolding canon keep_first canon_material canon_region
open_canon nx ny nz slots s c = refl
