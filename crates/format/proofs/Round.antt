-- Bytes that a rewind takes are `ReadBack`. Assumes nothing.
use Prim.Native.Nat.{ℕ}
use mathlib.Core.Path.{◌≡◌, sym, ap, ◌∙◌}
use mathlib.Core.Bool.{true}
use mathlib.Core.List.{List, [], append-nil}
use lib.Dec.{T}
use Rattle.codec.specs.Bytes.{bytes_fit}
use Rattle.grid.specs.declared.Record.{Record}
use Rattle.grid.specs.declared.stores.Lengths.{Lengths}
use Rattle.grid.specs.Stores.{Stores}
use Rattle.grid.proofs.Tests.{or_none}
use Rattle.format.specs.Save.{save_bytes}
use Rattle.format.specs.Rewind.{is_old, bytes_fault, read_record, read_stores, rewind_fault}
use Rattle.format.specs.ReadBack.{widened, ReadBack}
use Rattle.format.specs.Inner.Savable.{Savable}
use Rattle.format.proofs.Back.{saved_fault, record_again, stores_again}
use Rattle.format.proofs.Again.{read_none, read_lengths, record_held, stores_held, read_canon, bytes_again}
use Rattle.format.proofs.Widened.{bytes_widened, read_zero}
use Rattle.format.proofs.Cut.{read_cut, read_trailing}

-- ---- bytes without fault
module _ (b : List ℕ) (bytes : T (bytes_fit b)) (ok : bytes_fault b ≡ 0) where
  abbrev r : Record
  r = read_record b

  abbrev s : Stores
  s = read_stores b

  pub read_savable : Savable (read_record b) (read_stores b)
  read_savable = record { ok = read_none b bytes ok; held = record_held b bytes ok; fit = read_lengths b bytes ok; kept = stores_held b bytes ok }

  -- an old save and its study's next one say one study
  one_study : is_old b ≡ true → (bytes_fault (widened b) ≡ 0) × (read_record (widened b) ≡ read_record b) × (read_stores (widened b) ≡ read_stores b)
  one_study old =
      let k = read_savable in
      let next = sym (bytes_widened b bytes ok old) in (
        ap bytes_fault (next ∙ sym (append-nil (save_bytes r s))) ∙ saved_fault r s k.ok k.held k.fit k.kept [],
        ap read_record next ∙ record_again r s k.ok k.held k.fit k.kept ∙ read_canon b bytes ok,
        ap read_stores next ∙ stores_again r s k.ok k.held k.fit k.kept,
      )

  pub read_back : ReadBack b
  read_back = record {
    fine = read_none b bytes ok;
    long = read_lengths b bytes ok;
    canonical = read_canon b bytes ok;
    again = bytes_again b bytes ok;
    zero = read_zero b bytes ok;
    next = bytes_widened b bytes ok;
    same = one_study;
    cut = read_cut b bytes ok;
    more = read_trailing b bytes ok;
  }

-- ---- the same of bytes that a rewind takes, whatever it is lent
pub record Rewound (b : List ℕ) : Type 0 where
  pub savable : Savable (read_record b) (read_stores b)
  pub said : ReadBack b

pub rewind_takes : (b : List ℕ) (l : Lengths) → T (bytes_fit b) → rewind_fault b l ≡ 0 → Rewound b
unfolding rewind_fault
rewind_takes b l bytes e =
    let none : bytes_fault b ≡ 0 = (or_none (bytes_fault b) _ e).0 in
    record { savable = read_savable b bytes none; said = read_back b bytes none }
