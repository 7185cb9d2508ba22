-- Saves of one study are the same bytes, and one save is one study's. Assumes nothing.
use Prim.Native.Nat.{ℕ, zero, suc}
use mathlib.Core.Path.{◌≡◌, sym, ap, ◌∙◌}
use mathlib.Core.Bool.{false}
use mathlib.Core.List.{List, [], ◌∷◌, append-nil}
use lib.Dec.{T}
use lib.ListN.{length}
use lib.Ieee.{binary64, to_bits}
use Rattle.codec.specs.Lists.{every}
use Rattle.codec.specs.Bytes.{bytes_fit}
use Rattle.codec.specs.Frame.{frame_bytes}
use Rattle.codec.proofs.Lists.{every_append}
use Rattle.codec.proofs.Row.{enc_fit}
use Rattle.codec.proofs.Elements.{bytes_of_fit}
use Rattle.cells.specs.Cells.{joined}
use Rattle.grid.specs.declared.Record.{Record}
use Rattle.grid.specs.Canon.{canon}
use Rattle.grid.specs.Fault.{fault_of}
use Rattle.grid.specs.Stores.{Stores, store_lengths, lengths_of}
use Rattle.heads.specs.Numbers.{gh_widths, gh_nums, ml_widths}
use Rattle.block.specs.Inner.Held.{Held}
use Rattle.format.specs.Records.{Piece, framed, frames}
use Rattle.format.specs.Save.{list_bytes, pieces, save_bytes}
use Rattle.format.specs.Rewind.{is_old, bytes_fault, read_record, read_stores}
use Rattle.format.specs.InMemory.{StoresHeld}
use Rattle.format.proofs.Back.{saved_fault, saved_new, record_again, stores_again}
use Rattle.format.proofs.Again.{bytes_again}

-- ---- what is written are bytes
pub joined_fit : (n : ℕ) (g : ℕ → List ℕ) → ((i : ℕ) → T (bytes_fit (g i))) → T (bytes_fit (joined n g))
unfolding joined every
joined_fit zero g h = tt
joined_fit (suc n) g h = every_append _ (joined n g) (g n) (joined_fit n g h) (h n)

frames_cons : (p : Piece) (ps : List Piece) → T (bytes_fit p.payload) → T (bytes_fit (frames ps)) → T (bytes_fit (frames (p ∷ ps)))
unfolding frames
frames_cons p ps h t =
    every_append _ (framed p) (frames ps) (every_append _ (frame_bytes p.mark (length p.payload)) p.payload (enc_fit (2 ∷ 4 ∷ []) (p.mark ∷ length p.payload ∷ [])) h) t

frames_nil : T (bytes_fit (frames []))
unfolding frames every
frames_nil = tt

list_fit : (r : Record) → T (bytes_fit (list_bytes r))
unfolding list_bytes
list_fit r = joined_fit r.material_count _ (λ i. enc_fit ml_widths _)

pub save_fit : (r : Record) (s : Stores) → T (bytes_fit (save_bytes r s))
unfolding save_bytes pieces
save_fit r s =
    let x = bytes_of_fit 8 (to_bits binary64) in
    frames_cons _ _ (enc_fit gh_widths (gh_nums r)) (frames_cons _ _ (list_fit r) (frames_cons _ _ (bytes_of_fit 4 (λ n. n) s.ids)
    (frames_cons _ _ (x s.media) (frames_cons _ _ (x s.electric) (frames_cons _ _ (x s.magnetic) (frames_cons _ _ (x s.psi_e)
    (frames_cons _ _ (x s.psi_h) (frames_cons _ _ (x s.tables) (frames_cons _ _ (x s.poles) (frames_cons _ _ (x s.aux) frames_nil))))))))))

module _ (r : Record) (s : Stores) (ok : fault_of r ≡ 0) (h : Held r) (fit : lengths_of s ≡ store_lengths r) (k : StoresHeld s) where
  none : bytes_fault (save_bytes r s) ≡ 0
  none = ap bytes_fault (sym (append-nil (save_bytes r s))) ∙ saved_fault r s ok h fit k []

  new : is_old (save_bytes r s) ≡ false
  new = ap is_old (sym (append-nil (save_bytes r s))) ∙ saved_new r s ok h fit k []

  -- what means nothing leaves no trace in a save
  pub canon_saves : save_bytes (canon r) s ≡ save_bytes r s
  canon_saves =
      ap (λ (q : Record). save_bytes q s) (sym (record_again r s ok h fit k))
      ∙ ap (save_bytes (read_record (save_bytes r s))) (sym (stores_again r s ok h fit k))
      ∙ bytes_again (save_bytes r s) (save_fit r s) none new

  -- two studies with the same save are one study
  pub save_names : (r' : Record) (s' : Stores) → fault_of r' ≡ 0 → Held r' → lengths_of s' ≡ store_lengths r' → StoresHeld s' → save_bytes r s ≡ save_bytes r' s' → (canon r ≡ canon r') × (s ≡ s')
  save_names r' s' ok' h' fit' k' e =
      (sym (record_again r s ok h fit k) ∙ ap read_record e ∙ record_again r' s' ok' h' fit' k', sym (stores_again r s ok h fit k) ∙ ap read_stores e ∙ stores_again r' s' ok' h' fit' k')
